-- Release, of a sound region: what is shown after it, and that it stays sound. Assumes nothing.
use mathlib.Core.Path.{◌≡◌, sym, ap, ◌∙◌}
use mathlib.Core.Bool.{true}
use mathlib.Core.List.{List, []}
use Prim.Native.Nat.{ℕ, ◌+◌, ◌≤◌}
use lib.ListN.{set}
use borrow.Author.Tests.{ltb-false}
use Rattle.lent.proofs.Cases.{cond_case}
use Rattle.region.specs.Layout.{holders, held_at, held}
use Rattle.region.specs.Sound.{Good, sound}
use Rattle.region.specs.Holding.{inside}
use Rattle.pool.specs.Calls.{freed, released}
use Rattle.pool.specs.Contents.{having, release_of}
use Rattle.pool.specs.View.{shown}
use Rattle.region.proofs.SoundLaws.{good_sound}
use Rattle.region.proofs.HolderLaws.{inside_facts, inside_long}
use Rattle.pool.proofs.ReleaseLaws.{emptied_shows, released_good}
use Rattle.pool.proofs.ShownLaws.{pieces_out, having_same}

module _ (r : List ℕ) (i : ℕ) where
  abbrev q : List ℕ
  q = set (freed r i (held r i)) (held_at + i) 0

  -- beyond the last holder there is nothing to release
  none : holders ≤ i → shown r ≡ having (shown r) i []
  unfolding shown
  none h = sym (having_same (shown r) i) ∙ ap (having (shown r) i) (pieces_out r i h)

  module _ (g : Good r) where
    pub release_shows : shown (released r i) ≡ release_of (shown r) i
    unfolding released release_of
    release_shows =
        cond_case (λ t. shown t ≡ having (shown r) i []) (inside r i)
        (λ e. emptied_shows r i (inside_facts r i e).1 g)
        (λ e. none (ltb-false i holders (sym (inside_long r i g.long) ∙ e)))

    pub release_sound : sound (released r i) ≡ true
    unfolding released
    release_sound =
        cond_case (λ t. sound t ≡ true) (inside r i)
        (λ e. good_sound q (released_good r i (inside_facts r i e).1 g))
        (λ e. good_sound r g)
