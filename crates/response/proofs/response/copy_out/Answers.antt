use Prim.Native.Nat.{ℕ}
use mathlib.Core.Path.{◌≡◌, sym, ap, ap₂, ◌∙◌}
use mathlib.Core.List.{List}
use native.Mathlib.Omega.{arith}
use Rattle.lent.specs.Place.{splice}
use Rattle.lent.proofs.PlaceLaws.{splice_none, splice_out}
use Rattle.region.specs.Layout.{held}
use Rattle.pool.specs.Calls.{joined, response, copied}
use Rattle.pool.proofs.CallLaws.{response_in, response_out}
use Rattle.response.proofs.response.copy_out.Goals as goal

pub returns-in_default-clause-out_after : goal.returns-in_default-clause-out_after
unfolding copied
returns-in_default-clause-out_after c =
    let a = c.args in
    sym (ap (splice a.out.now 0) (response_out a.r.now a.i (c.in_default.ensures)) ∙ splice_none a.out.now 0)

pub returns-else-fits-clause-out_after : goal.returns-else-fits-clause-out_after
unfolding copied
returns-else-fits-clause-out_after c =
    let a = c.args in
    let p = c.in-Some.pieces in
    let w = c.in-Some.ensures in
    let e : response a.r.now a.i ≡ joined p.region p.i (held p.region p.i) = response_in a.r.now a.i w.0 ∙ sym (ap₂ (λ (t : List ℕ) (k : ℕ). joined t k (held t k)) w.1 w.2) in
    sym (ap (splice a.out.now 0) e ∙ splice_out a.out.now 0 (joined p.region p.i (held p.region p.i)) (omega (arith, c.length.ensures)))
