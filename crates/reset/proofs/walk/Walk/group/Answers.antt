use Rattle.atr.proofs.WalkLaws.{group_at, group_then}
use mathlib.Core.Path.{sym}
use Rattle.reset.proofs.walk.Walk.group.Goals as goal

pub returns-clause-value : goal.returns-clause-value
unfolding group_at
returns-clause-value c =
    let w = c.args.self.now in simp (
      c.from-a.ensures,
      c.from-b.ensures,
      c.from-c.ensures,
      c.from-d.ensures,
      c.field-4.ensures.value,
      c.field-3.ensures.value,
      c.field-2.ensures.value,
      c.field.ensures.value,
    ) (sym (group_then w.td w.s.now w.at).first)
