use Prim.Native.Nat.{ℕ, ◌+◌}
use mathlib.Core.Path.{◌≡◌, refl, sym, ap, ap₂, ◌∙◌}
use mathlib.Core.Bool.{Bool, true, false, ◌&&◌}
use mathlib.Core.List.{List}
use native.Mathlib.Omega.{arith}
use lib.Dec.{leb}
use lib.ListN.{get_or}
use Rattle.region.specs.Layout.{holders, cells, pool_of}
use Rattle.shares.specs.Pool.{fit, limit}
use Rattle.lent.specs.Fold.{all, sum}
use Rattle.lent.proofs.FoldLaws.{all_next, all_fails, sum_next, all_end, sum_end}
use Rattle.region.proofs.limits.acceptable.Goals as goal

-- what `in_order` tells of a holder's bytes is its limit
told : (shares ceilings : List ℕ) (i : ℕ) {s c : ℕ} {b : Bool} → b ≡ (leb s c && leb c cells) → s ≡ get_or shares i 0 → c ≡ get_or ceilings i 0
    → limit (pool_of shares ceilings) i ≡ b
unfolding limit
told shares ceilings i e f g = sym (rw (← f, ← g) e)

pub loop-i-init : goal.loop-i-init
unfolding all sum
loop-i-init c = (omega arith, refl, refl)

pub returns-then-not-in_order : goal.returns-then-not-in_order
unfolding fit
returns-then-not-in_order c =
    let a = c.args in
    let K = pool_of a.shares.now a.ceilings.now in
    let l = c.loop-i in
    let e : limit K l.i ≡ false = told a.shares.now a.ceilings.now l.i c.in_order.ensures c.get-share.ensures c.get.ensures ∙ c.if-not-in_order.true in
    sym (ap (λ (b : Bool). b && leb (sum holders K.share) cells) (all_fails (limit K) holders l.i (omega arith) e))

pub loop-i-preserved : goal.loop-i-preserved
loop-i-preserved c =
    let a = c.args in
    let K = pool_of a.shares.now a.ceilings.now in
    let l = c.loop-i in
    let e : limit K l.i ≡ true = told a.shares.now a.ceilings.now l.i c.in_order.ensures c.get-share.ensures c.get.ensures ∙ c.if-not-in_order.false in (
      omega arith,
      all_next (limit K) l.i ∙ rw (l.invariant.1, e),
      ap₂ ◌+◌ l.invariant.2 (c.wide-total.ensures.0 ∙ c.get-share.ensures) ∙ sym (sum_next K.share l.i),
    )

pub returns : goal.returns
unfolding fit
returns c =
    let a = c.args in
    let K = pool_of a.shares.now a.ceilings.now in
    let l = c.loop-i in
    rw (all_end (limit K) l.i holders (omega arith) l.invariant.1, sum_end K.share l.i holders l.total (omega arith) l.invariant.2)
