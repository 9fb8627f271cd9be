use mathlib.Core.Path.{ap, ap₂, ◌∙◌}
use mathlib.Core.Bool.{cond}
use native.Mathlib.Omega.{arith}
use lib.Dec.{eqb}
use lib.ListN.{length}
use borrow.Author.Tests.{le-leb}
use Rattle.region.specs.Layout.{cells, unowned, owners_at, size}
use Rattle.region.specs.Holding.{free_cells}
use Rattle.region.specs.Sound.{counted}
use Rattle.region.proofs.PartLaws.{sum_part}
use Rattle.sound.proofs.sound.is_counted.Goals as goal

pub returns : goal.returns
unfolding counted free_cells
returns c =
    let r = c.r.inside.bytes.now in
    ap₂ eqb
    (c.unowned_of.ensures ∙ sum_part (λ o. cond (eqb o unowned) 1 0) r owners_at cells (omega (arith, c.r.invariant)))
    (c.free.ensures ∙ rw (le-leb size (length r) (omega (arith, c.r.invariant))))
    ∙ ap counted c.r.view_is
