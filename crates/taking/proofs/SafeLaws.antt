-- What a `SafeTalk` carries of a talk's numbers is kept when r is flipped. Assumes nothing.
use mathlib.Core.Path.{◌≡◌, sym, subst}
use native.Mathlib.Omega.{arith}
use Rattle.slot.specs.declared.parts.Talk.{Talk}
use Rattle.slot.specs.Safe.{Numbers}
use Rattle.taking.specs.Rows.{took}

pub took_safe : (t u : Talk) → u ≡ took t → Numbers t → Numbers u
took_safe t u e n =
    subst Numbers (sym e)
    (record { line = record { s = n.line.s; r = omega arith; bwt = n.line.bwt }; sent = n.sent })
