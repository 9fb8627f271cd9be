use Rattle.std.proofs.Common.{◌≤◌, ◌+◌}
use mathlib.Core.Path.{◌≡◌, sym, ap, ◌∙◌}
use native.Mathlib.Omega.{arith}
use native.Mathlib.Numerals.{add-one}
use lib.ListN.{length, length-set}
use lib.Seq.{paste, paste-suc}
use borrow.Author.Tests.{leb-true}
use Rattle.lent.proofs.PlaceLaws.{paste-splice}
use Rattle.lent.proofs.place.put.Goals as goal

pub loop-j-preserved : goal.loop-j-preserved
loop-j-preserved c =
    let l = c.loop-j in
    let p = c.args in
    let w : p.a + length p.src.now ≤ length p.t.now = leb-true _ _ (sym c.lies_within-fits.ensures ∙ c.if-fits.true) in (
      simp length-set (omega arith),
      rw (l.invariant.1, add-one) (paste-suc p.t.now p.a p.src.now l.j 0 (omega arith) (omega arith)),
    )

pub returns-after-loop-j-clause-t_after : goal.returns-after-loop-j-clause-t_after
returns-after-loop-j-clause-t_after c =
    let p = c.args in
    let w : p.a + length p.src.now ≤ length p.t.now = leb-true _ _ (sym c.lies_within-fits.ensures ∙ c.if-fits.true) in
    let e : c.loop-j.j ≡ length p.src.now = omega arith in
    c.loop-j.invariant.1 ∙ ap (paste p.t.now p.a p.src.now) e ∙ paste-splice p.t.now p.a p.src.now w
