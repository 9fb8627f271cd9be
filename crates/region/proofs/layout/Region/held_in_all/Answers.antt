use mathlib.Core.Path.{ap, ◌∙◌}
use native.Mathlib.Omega.{arith}
use Rattle.lent.specs.Fold as fold
use Rattle.region.specs.Layout.{holders, held_at, held}
use Rattle.region.proofs.PartLaws.{sum_part}
use Rattle.region.proofs.layout.Region.held_in_all.Goals as goal

pub returns : goal.returns
returns c =
    let r = c.self.inside.bytes.now in
    c.total.ensures ∙ sum_part (λ x. x) r held_at holders (omega (arith, c.self.invariant)) ∙ ap (λ t. fold.sum holders (held t)) c.self.view_is
