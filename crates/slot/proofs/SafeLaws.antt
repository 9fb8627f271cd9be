-- What the calls' code asks of a talk's numbers: numbers in their ranges have it. Assumes nothing.
use mathlib.Core.Path.{◌≡◌}
use mathlib.Core.Bool.{Bool, true}
use native.Mathlib.Omega.{arith}
use borrow.Author.Tests.{leb-true}
use Rattle.session.specs.Kept.{LineKept}
use Rattle.slot.specs.declared.parts.Line.{Line}
use Rattle.slot.specs.declared.parts.Last as last
use Rattle.slot.specs.declared.parts.Last.{Last}
use Rattle.slot.specs.declared.parts.Talk.{Talk}
use Rattle.slot.specs.View.{line_of}
use Rattle.slot.specs.Fit.{line_fits, last_fits, in_range}
use Rattle.slot.specs.Safe.{LineSafe, Nibble, Safe}
use Rattle.slot.proofs.FitLaws.{line_fit, in_range_lem}

kept_safe : (l : Line) → LineKept (line_of l) → LineSafe l
kept_safe l k = record { s = k.s; r = k.r; bwt = k.bwt }

pub line_safe : (l : Line) → line_fits l ≡ true → LineSafe l
line_safe l e = kept_safe l (line_fit l e)

nibble_safe : (l : Last) (acked : Bool) → last_fits l acked ≡ true → Nibble l
unfolding last_fits
nibble_safe last.TheVariants.I acked e = tt
nibble_safe (last.TheVariants.R n) acked e = leb-true n 2 e
nibble_safe (last.TheVariants.S pcb byte) acked e = tt

pub range_safe : (t : Talk) → in_range t ≡ true → Safe t
range_safe t e =
    let f = in_range_lem t e in
    record {
      numbers = record { line = kept_safe t.line f.line; sent = omega (arith, f.sent) };
      cut = record { ends = f.cut.ends; whole = f.cut.most };
      nibble = nibble_safe t.turn.last t.acked f.last;
    }
