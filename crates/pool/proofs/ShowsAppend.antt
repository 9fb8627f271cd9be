-- Append, of a sound region and of what it shows: the answer, what is shown after it, and that it stays sound. Assumes nothing.
use mathlib.Core.Path.{◌≡◌, refl, sym, ap, ◌∙◌}
use mathlib.Core.Bool.{Bool, true, false, cond, ◌&&◌}
use mathlib.Core.List.{List, [], ◌∷◌, ◌++◌}
use Prim.Native.Nat.{ℕ}
use lib.Dec.{ltb}
use lib.ListN.{length}
use borrow.Author.Tests.{lt-ltb}
use Rattle.lent.proofs.Cases.{cond_case}
use Rattle.region.specs.Layout.{cells, held}
use Rattle.region.specs.Sound.{piece_size, Good, sound}
use Rattle.region.specs.Holding.{granted}
use Rattle.pool.specs.Calls.{lowest, stored, takes, appends, appended}
use Rattle.pool.specs.Contents.{having, takes_piece, append_to}
use Rattle.pool.specs.View.{shown}
use Rattle.region.proofs.SoundLaws.{good_sound}
use Rattle.region.proofs.HolderLaws.{granted_facts}
use Rattle.pool.proofs.CallLaws.{appends_facts}
use Rattle.pool.proofs.AppendLaws.{lowest_in, stored-shows, stored_good}
use Rattle.pool.proofs.HoldingLaws.{granted_shown}

module _ (r : List ℕ) (g : Good r) (i : ℕ) where
  -- where a cell is granted there is one
  takes-granted : takes r i ≡ granted r i
  unfolding takes
  takes-granted = go (granted r i) refl
    where
      go : (b : Bool) → granted r i ≡ b → (b && ltb (lowest r) cells) ≡ b
      go true e = let a = granted_facts r i e in lt-ltb (lowest r) cells (lowest_in r i g a.holder a.given)
      go false e = refl

  module _ (xs : List ℕ) where
    pub append-says : appends r i xs ≡ takes_piece (shown r) i xs
    unfolding appends takes_piece
    append-says = ap (λ b. piece_size (length xs) && b) (takes-granted ∙ granted_shown r g.long i)

    abbrev q : List ℕ
    q = stored r i (held r i) (lowest r) xs

    pub append-shows : shown (appended r i xs) ≡ append_to (shown r) i xs
    unfolding appended append_to
    append-shows = rw (sym append-says) (go (appends r i xs) refl)
      where
        go : (b : Bool) → appends r i xs ≡ b
            → shown (cond b q r) ≡ cond b (having (shown r) i ((shown r).pieces i ++ (xs ∷ []))) (shown r)
        go true e = let a = appends_facts r i xs e in stored-shows r i g a.gets.holder a.gets.given xs a.short
        go false e = refl

    pub append-sound : sound (appended r i xs) ≡ true
    unfolding appended
    append-sound =
        cond_case (λ t. sound t ≡ true) (appends r i xs)
        (λ e.
        let a = appends_facts r i xs e in
        good_sound q
        (stored_good r i g a.gets.holder a.gets.given xs a.short a.some))
        (λ e. good_sound r g)
