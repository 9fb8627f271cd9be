use Prim.Native.Nat.{ℕ}
use mathlib.Core.Path.{◌≡◌, refl, sym}
use mathlib.Core.Bool.{Bool, true, false, ◌&&◌}
use native.Mathlib.Omega.{arith}
use borrow.Author.Tests.{ne_eqb}
use Rattle.block.specs.declared.event.Event.{Event}
use Rattle.block.specs.declared.event.Event.TheVariants.{I, R, IfsRequest, IfsResponse, Abort, Wtx, Edc, Other}
use Rattle.slot.specs.declared.parts.Talk.{Talk}
use Rattle.slot.specs.Fit.{in_range}
use Rattle.slot.proofs.FitLaws.{in_range_lem}
use Rattle.taking.specs.Rows.{due}
use Rattle.taking.specs.Calls.{asks_cell}
use Rattle.taking.proofs.calls.asks_cell.Goals as goal

-- no block is numbered 2, the number of an event that is no I-block
none_due : (t : Talk) (b : Bool) → in_range t ≡ b → (b && due t 2) ≡ false
unfolding due
none_due t true e = let f = in_range_lem t e in rw (ne_eqb 2 t.line.r (λ q. absurd (omega (arith, f.line.r))))
none_due t false e = refl

none_asks : (t : Talk) (e : Event) → ((n : ℕ) (more : Bool) → e ≡ I n more → ⊥) → asks_cell t e ≡ false
unfolding asks_cell
none_asks t (I n more) other = absurd (other n more refl)
none_asks t (R n) other = none_due t _ refl
none_asks t (IfsRequest n) other = none_due t _ refl
none_asks t (IfsResponse n) other = none_due t _ refl
none_asks t Abort other = none_due t _ refl
none_asks t (Wtx n) other = none_due t _ refl
none_asks t Edc other = none_due t _ refl
none_asks t Other other = none_due t _ refl

pub returns-in_default : goal.returns-in_default
returns-in_default c = sym (none_asks c.args.t c.args.e c.in_default.not-I)
