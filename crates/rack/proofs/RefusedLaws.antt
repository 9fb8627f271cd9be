-- What a refusal's number says of the call. Assumes nothing.
use Prim.Native.Nat.{ℕ}
use mathlib.Core.Path.{◌≡◌, refl, sym}
use mathlib.Core.List.{List}
use native.Mathlib.Omega.{arith}
use Rattle.answer.specs.declared.refusal.Refusal as refusal
use Rattle.answer.specs.declared.refusal.Refusal.{Refusal}
use Rattle.answer.specs.Refusal.{refusal_no}
use Rattle.answer.specs.Record.{told}
use Rattle.session.specs.Call.{Input, refuses}
use Rattle.call.specs.Call.{refusal_of}
use Rattle.call.proofs.RefusalLaws.{or_else}
use Rattle.call.proofs.AnswerLaws.{Leaves, refused}

-- no refusal has the number 0
pub refusal_some : (r : Refusal) → refusal_no r ≡ 0 → ⊥
refusal_some refusal.TheVariants.Table e = omega (arith, e)
refusal_some refusal.TheVariants.Limits e = omega (arith, e)
refusal_some refusal.TheVariants.Slot e = omega (arith, e)
refusal_some refusal.TheVariants.State e = omega (arith, e)
refusal_some refusal.TheVariants.Lent e = omega (arith, e)
refusal_some refusal.TheVariants.Kind e = omega (arith, e)
refusal_some refusal.TheVariants.Form e = omega (arith, e)
refusal_some refusal.TheVariants.Start e = omega (arith, e)
refusal_some refusal.TheVariants.Length e = omega (arith, e)
refusal_some refusal.TheVariants.Check e = omega (arith, e)
refusal_some refusal.TheVariants.Protocol e = omega (arith, e)
refusal_some refusal.TheVariants.Parameter e = omega (arith, e)

-- a refusal stands before what is tried next
pub or_refused : (r : Refusal) (m : ℕ) → or_else (refusal_no r) m ≡ refusal_no r
or_refused refusal.TheVariants.Table m = refl
or_refused refusal.TheVariants.Limits m = refl
or_refused refusal.TheVariants.Slot m = refl
or_refused refusal.TheVariants.State m = refl
or_refused refusal.TheVariants.Lent m = refl
or_refused refusal.TheVariants.Kind m = refl
or_refused refusal.TheVariants.Form m = refl
or_refused refusal.TheVariants.Start m = refl
or_refused refusal.TheVariants.Length m = refl
or_refused refusal.TheVariants.Check m = refl
or_refused refusal.TheVariants.Protocol m = refl
or_refused refusal.TheVariants.Parameter m = refl

-- a call that is refused leaves table and output, and its number stands in the record
pub err_leaves : (t out rec : List ℕ) (i : ℕ) (x : Input) (r : Refusal) → refusal_no r ≡ refusal_of t i x
    → Leaves t out rec i x (refusal_no r) t out (told rec (refuses (refusal_no r)))
err_leaves t out rec i x r e = refused t out rec i x (refusal_no r) (sym e) (refusal_some r)
