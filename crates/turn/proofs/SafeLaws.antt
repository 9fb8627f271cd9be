-- What a `SafeTalk` carries of a talk's numbers is kept when the next I-block is cut. Assumes nothing.
use Prim.Native.Nat.{ℕ}
use mathlib.Core.Path.{◌≡◌, sym, subst}
use native.Mathlib.Omega.{arith}
use Rattle.slot.specs.declared.parts.Cut.{Cut}
use Rattle.slot.specs.declared.parts.Talk.{Talk}
use Rattle.slot.specs.Safe.{Numbers, Within}
use Rattle.turn.specs.Sending.{next_cut, cut_next}

-- the next I-block lies within the command too
within_next : (ifsc : ℕ) (c : Cut) → Within c → Within (next_cut ifsc c)
within_next ifsc c w = record { ends = omega (arith, w.ends); whole = w.whole }

-- a changed talk that is known by an equation
pub cut_safe : (t u : Talk) → u ≡ cut_next t → Numbers t → Within t.cut → Numbers u × Within u.cut
cut_safe t u e n w =
    subst (λ (v : Talk). Numbers v × Within v.cut) (sym e) (
      record { line = record { s = omega arith; r = n.line.r; bwt = n.line.bwt }; sent = n.sent },
      within_next t.line.ifsc t.cut w,
    )
