-- What is asked of a region is said of what it shows. Assumes nothing.
use mathlib.Core.Path.{◌≡◌, refl, sym, ap, ◌∙◌}
use mathlib.Core.Bool.{Bool, true, false, cond}
use mathlib.Core.List.{List, []}
use Prim.Native.Nat.{ℕ, ◌-◌, ◌≤◌, ◌<◌}
use native.Mathlib.Omega.{arith}
use lib.Dec.{ltb}
use lib.ListN.{length}
use borrow.Author.Tests.{lt-ltb, le-leb, ltb-true}
use Rattle.lent.proofs.Cases.{cond_case, and_under}
use Rattle.lent.proofs.FoldLaws.{sum_ext}
use Rattle.shares.specs.Pool as pool
use Rattle.shares.proofs.GrantLaws.{sound_ext, granted_ext}
use Rattle.region.specs.Layout.{holders, cells, size, held, pool_in}
use Rattle.region.specs.Sound.{Good}
use Rattle.region.specs.Holding.{held_by, free_cells, rule_grants, granted}
use Rattle.pool.specs.Calls.{joined, response}
use Rattle.pool.specs.Contents.{holding, granted_in, join, sized}
use Rattle.pool.specs.View.{pieces, pieces_of, shown}
use Rattle.pool.proofs.ViewLaws.{pieces-length}
use Rattle.region.proofs.HolderLaws.{inside_long}
use Rattle.pool.proofs.ResponseLaws.{joined-join, pieces-sized}

module _ (r : List ℕ) where
  -- a cell held is a piece shown
  holding_is : (i : ℕ) → holding (shown r) i ≡ cond (ltb i holders) (held r i) 0
  unfolding shown pieces_of
  holding_is i = go (ltb i holders)
    where
      go : (b : Bool) → length (cond b (pieces r i (held r i)) []) ≡ cond b (held r i) 0
      go true = pieces-length r i (held r i)
      go false = refl

  holding-held : (i : ℕ) → i < holders → holding (shown r) i ≡ held r i
  holding-held i h = holding_is i ∙ rw (lt-ltb i holders h)

  -- the rule goes by what is shown
  grants_shown : (i : ℕ) → i < holders → rule_grants r i ≡ pool.granted (shown r).limits (holding (shown r)) i
  unfolding rule_grants shown
  grants_shown i h = granted_ext (pool_in r) (held r) (holding (shown r)) i h (λ j l. sym (holding-held j l))

  module _ (long : size ≤ length r) where
    pub held_shown : (i : ℕ) → held_by r i ≡ holding (shown r) i
    unfolding held_by
    held_shown i = ap (λ b. cond b (held r i) 0) (inside_long r i long) ∙ sym (holding_is i)

    pub free_shown : free_cells r ≡ pool.free (shown r).limits (holding (shown r))
    unfolding free_cells shown
    free_shown =
        rw (le-leb size (length r) long)
        (ap (λ n. cells - n) (sum_ext (held r) (holding (shown r)) holders (λ j l. sym (holding-held j l))))

    pub granted_shown : (i : ℕ) → granted r i ≡ granted_in (shown r) i
    unfolding granted granted_in shown
    granted_shown i =
        rw (inside_long r i long)
        (and_under (ltb i holders) (λ e. grants_shown i (ltb-true i holders e)))

  module _ (g : Good r) where
    pub holdings_shown : pool.Sound (shown r).limits (holding (shown r))
    unfolding shown
    holdings_shown = sound_ext (pool_in r) (held r) (holding (shown r)) (λ j l. sym (holding-held j l)) g.holdings

    pub sizes_shown : (i : ℕ) → sized ((shown r).pieces i) ≡ true
    unfolding shown pieces_of sized
    sizes_shown i =
        cond_case (λ ps. sized ps ≡ true) (ltb i holders)
        (λ e. pieces-sized r i (held r i) g (ltb-true i holders e) (omega arith))
        (λ e. refl)

    pub response_shown : (i : ℕ) → response r i ≡ join ((shown r).pieces i)
    unfolding response shown pieces_of join
    response_shown i = rw (inside_long r i g.long) (go (ltb i holders) refl)
      where
        go : (b : Bool) → ltb i holders ≡ b → cond b (joined r i (held r i)) [] ≡ join (cond b (pieces r i (held r i)) [])
        go true e = joined-join r i (held r i) g (ltb-true i holders e) (omega arith)
        go false e = refl
