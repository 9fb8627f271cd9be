use Prim.Native.Nat.{ℕ, ◌+◌, ◌-◌, ◌≤◌, ◌<◌}
use mathlib.Core.Path.{◌≡◌, refl, sym, ap, ap₂, ◌∙◌}
use mathlib.Core.Bool.{Bool, true, false, ◌&&◌}
use mathlib.Core.List.{List}
use native.Mathlib.Omega.{arith}
use lib.Dec.{leb}
use lib.ListN.{get_or}
use borrow.Author.Tests.{lt-leb, le-leb}
use Rattle.region.specs.Layout.{holders, cells, shares_at, ceilings_at, held, pool_in}
use Rattle.shares.specs.Pool.{lack, free, sound}
use Rattle.lent.specs.Fold.{all, sum}
use Rattle.lent.proofs.FoldLaws.{all_next, all_fails, sum_next, all_end, sum_end}
use Rattle.region.proofs.LimitLaws.{share_at, ceiling_at}
use Rattle.sound.proofs.sound.are_holdings.Goals as goal

abbrev under : List ℕ → ℕ → Bool
under r j = leb (held r j) ((pool_in r).ceiling j)

-- what the bytes t of the region r tell of holder j
module _ (t r : List ℕ) (j : ℕ) (e : t ≡ r) (h : j < holders) where
  over_is : get_or t (ceilings_at + j) 0 < held t j → under r j ≡ false
  over_is l = rw (← e) (rw (ceiling_at t j h) (lt-leb (held t j) (get_or t (ceilings_at + j) 0) l))

  under_is : held t j ≤ get_or t (ceilings_at + j) 0 → under r j ≡ true
  under_is l = rw (← e) (rw (ceiling_at t j h) (le-leb (held t j) (get_or t (ceilings_at + j) 0) l))

  held_is : held t j ≡ held r j
  held_is = ap (λ (u : List ℕ). held u j) e

  lack_is : get_or t (shares_at + j) 0 - held t j ≡ lack (pool_in r) (held r) j
  lack_is = rw (← e) (ap (λ (s : ℕ). s - held t j) (sym (share_at t j h)))

-- at the loop's end all holders have been looked at
whole : (r : List ℕ) (total lacking j : ℕ) → j ≡ holders → all j (under r) ≡ true → total ≡ sum j (held r) → lacking ≡ sum j (lack (pool_in r) (held r))
    → (all holders (under r) ≡ true) × (total ≡ sum holders (held r)) × (lacking ≡ sum holders (lack (pool_in r) (held r)))
whole r total lacking j e a b d = (
  all_end (under r) j holders e a,
  sum_end (held r) j holders total e b,
  sum_end (lack (pool_in r) (held r)) j holders lacking e d,
)

pub loop-j-init : goal.loop-j-init
unfolding all sum
loop-j-init c = (omega arith, omega arith, refl, refl, refl)

pub returns-then-r-j : goal.returns-then-r-j
unfolding sound
returns-then-r-j c =
    let r = c.args.r.now in
    let l = c.loop-j in
    let e : under r l.j ≡ false = over_is c.r.inside.bytes.now r l.j c.r.view_is (omega arith) (omega arith) in
    sym (ap (λ (b : Bool). b && (leb (sum holders (held r)) cells && leb (sum holders (lack (pool_in r) (held r))) (free (pool_in r) (held r)))) (all_fails (under r) holders l.j (omega arith) e))

pub loop-j-preserved : goal.loop-j-preserved
loop-j-preserved c =
    let t = c.r.inside.bytes.now in
    let r = c.args.r.now in
    let l = c.loop-j in
    let e : under r l.j ≡ true = under_is t r l.j c.r.view_is (omega arith) (omega arith) in (
      omega arith,
      omega arith,
      all_next (under r) l.j ∙ rw (l.invariant.2, e),
      ap₂ ◌+◌ l.invariant.3 (c.from-total.ensures ∙ held_is t r l.j c.r.view_is (omega arith)) ∙ sym (sum_next (held r) l.j),
      ap₂ ◌+◌ l.invariant.4 (c.from-lacking.ensures ∙ c.lack.ensures.0 ∙ lack_is t r l.j c.r.view_is (omega arith)) ∙ sym (sum_next (lack (pool_in r) (held r)) l.j),
    )

pub returns-else-total-le-CELLS : goal.returns-else-total-le-CELLS
unfolding sound
returns-else-total-le-CELLS c =
    let w = whole c.args.r.now c.loop-j.total c.loop-j.lacking c.loop-j.j (omega arith) c.loop-j.invariant.2 c.loop-j.invariant.3 c.loop-j.invariant.4 in
    let e : leb (sum holders (held c.args.r.now)) cells ≡ false = lt-leb (sum holders (held c.args.r.now)) cells (omega (arith, w.1)) in
    rw w.1 (simp (w.0, e))

pub returns-then-total-le-CELLS : goal.returns-then-total-le-CELLS
unfolding sound
returns-then-total-le-CELLS c =
    let w = whole c.args.r.now c.loop-j.total c.loop-j.lacking c.loop-j.j (omega arith) c.loop-j.invariant.2 c.loop-j.invariant.3 c.loop-j.invariant.4 in
    rw (w.1, w.2) (sym (simp (w.0, le-leb (sum holders (held c.args.r.now)) cells (omega (arith, w.1)))))
