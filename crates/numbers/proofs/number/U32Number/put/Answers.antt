use mathlib.Core.Path.{ap, ◌∙◌}
use Rattle.lent.specs.Place.{splice}
use Rattle.lent.proofs.NumberLaws.{bytes_high}
use Rattle.numbers.proofs.number.U32Number.put.Goals as goal

pub returns-clause-t_after : goal.returns-clause-t_after
returns-clause-t_after c =
    let a = c.args in
    c.put.ensures.t_after ∙ ap (splice a.t.now a.a) (c.to_be_bytes-four.ensures ∙ bytes_high 4 a.self)
