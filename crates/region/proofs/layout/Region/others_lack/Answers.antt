use Prim.Native.Nat.{ℕ, ◌+◌, ◌-◌, ◌<◌}
use mathlib.Core.Path.{◌≡◌, refl}
use mathlib.Core.List.{List}
use native.Mathlib.Omega.{arith}
use lib.ListN.{get_or}
use borrow.Author.Tests.{ne_eqb, eq-eqb}
use Rattle.lent.specs.Fold.{sum}
use Rattle.lent.proofs.FoldLaws.{sum_next}
use Rattle.shares.specs.Pool.{lack, others}
use Rattle.region.specs.Layout.{holders, shares_at, held, pool_in}
use Rattle.region.proofs.LimitLaws.{share_at}
use Rattle.region.proofs.layout.Region.others_lack.Goals as goal
use Rattle.region.proofs.layout.Region.others_lack.Goals.{then-j-i, else-j-i}

-- what holder j adds: what it lacks by the bytes t of the region r, and nothing where it is i
adds : (t r : List ℕ) (i j : ℕ) → t ≡ r → j < holders → (j ≡ i → ⊥) → others i (lack (pool_in r) (held r)) j ≡ get_or t (shares_at + j) 0 - held t j
adds t r i j e h d = rw e (simp (ne_eqb j i d, share_at r j h))

none : (r : List ℕ) (i j : ℕ) → j ≡ i → others i (lack (pool_in r) (held r)) j ≡ 0
none r i j e = rw (eq-eqb j i e)

pub loop-j-init : goal.loop-j-init
unfolding sum
loop-j-init c = (omega arith, refl)

pub loop-j-preserved : goal.loop-j-preserved
loop-j-preserved c =
    let r = c.args.self.now in
    let i = c.args.i in
    let j = c.loop-j.j in
    let next = sum_next (others i (lack (pool_in r) (held r))) j in
    elim c.if-j-i.branch [
      | then-j-i w ↦ (omega arith, omega (arith, next, adds c.self.inside.bytes.now r i j c.self.view_is (omega arith) (λ e. omega arith), w.lack-total.ensures.0))
      | else-j-i w ↦ (omega arith, omega (arith, next, none r i j (omega arith)))
    ]
