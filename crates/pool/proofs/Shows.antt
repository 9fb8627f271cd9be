-- What is promised of a region and of what it shows. Assumes nothing.
use mathlib.Core.Path.{◌≡◌, refl, ap}
use mathlib.Core.Bool.{Bool, true, cond}
use mathlib.Core.List.{List}
use Prim.Native.Nat.{ℕ, ◌≤◌}
use lib.ListN.{length}
use Rattle.lent.specs.Place.{splice}
use Rattle.lent.proofs.Cases.{cond_case}
use Rattle.lent.proofs.PlaceLaws.{length-splice}
use Rattle.region.specs.Layout.{holders, size, held, pool_of}
use Rattle.region.specs.Sound.{sound, Good}
use Rattle.region.specs.Holding.{inside}
use Rattle.pool.specs.Calls.{fresh, lays_out, laid_out, lowest, appends, appended, released, copied}
use Rattle.pool.specs.Contents.{empty}
use Rattle.pool.specs.View.{shown}
use Rattle.pool.specs.Shows.{Fresh, Shows, Promised}
use Rattle.region.proofs.SoundLaws.{sound_good, good_sound}
use Rattle.pool.proofs.CallLaws.{lays_facts, lays_long, laid_yes, laid_no, appended_no}
use Rattle.pool.proofs.StoredLaws.{length-stored}
use Rattle.pool.proofs.ReleaseLaws.{length_emptied}
use Rattle.pool.proofs.FreshLaws.{pool_fresh, fresh_none, fresh_good}
use Rattle.pool.proofs.ShownLaws.{shown_is}
use Rattle.pool.proofs.HoldingLaws.{held_shown, free_shown, granted_shown, holdings_shown, sizes_shown, response_shown}
use Rattle.pool.proofs.ShowsAppend.{append-says, append-shows, append-sound}
use Rattle.pool.proofs.ShowsRelease.{release_shows, release_sound}

module _ (r sh ce : List ℕ) (ls : length sh ≡ holders) (lc : length ce ≡ holders) (lays : lays_out r sh ce ≡ true) where
  long : size ≤ length r
  long = (lays_facts r sh ce lays).0

  abbrev q : List ℕ
  q = splice r 0 (fresh sh ce)

  laid : laid_out r sh ce ≡ q
  laid = laid_yes r sh ce lays

  fresh_shows : Fresh r sh ce
  fresh_shows = record {
    sound =
        rw laid
        (good_sound q (fresh_good sh ce ls lc r long (lays_facts r sh ce lays).1));
    shows =
        rw laid
        (shown_is q (empty (pool_of sh ce)) (pool_fresh sh ce ls lc r long) (fresh_none sh ce ls lc r long) (λ j h. refl));
  }

shows : (r : List ℕ) → sound r ≡ true → Shows r
unfolding shown copied
shows r s =
    let g : Good r = sound_good r s in
    record {
      many = refl;
      all = refl;
      fit = g.fit;
      holdings = holdings_shown r g;
      sizes = sizes_shown r g;
      held = held_shown r g.long;
      free = free_shown r g.long;
      granted = granted_shown r g.long;
      append-says = append-says r g;
      append-shows = append-shows r g;
      append-sound = append-sound r g;
      release_shows = λ i. release_shows r i g;
      release_sound = λ i. release_sound r i g;
      response = response_shown r g;
      copy_shows = λ i out. ap (splice out 0) (response_shown r g i);
    }

-- a write that is made or not keeps the length
made_or_not : (b : Bool) (t r : List ℕ) → length t ≡ length r → length (cond b t r) ≡ length r
made_or_not b t r e = cond_case (λ (l : List ℕ). length l ≡ length r) b (λ y. e) (λ n. refl)

pub promised : Promised
unfolding laid_out appended released
promised = record {
  fresh = fresh_shows;
  shows = shows;
  lays = lays_long;
  denied = appended_no;
  unlaid = laid_no;
  laid-length = λ r sh ce. made_or_not (lays_out r sh ce) _ r (length-splice r 0 (fresh sh ce));
  append-length = λ r i xs. made_or_not (appends r i xs) _ r (length-stored r i (held r i) (lowest r) xs);
  release_length = λ r i. made_or_not (inside r i) _ r (length_emptied r i);
}
