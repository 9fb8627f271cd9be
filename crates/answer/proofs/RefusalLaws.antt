-- A number is at most one refusal's. Assumes nothing.
use mathlib.Core.Path.{◌≡◌}
use native.Mathlib.Omega.{arith}
use Rattle.answer.specs.declared.refusal.Refusal.{Refusal}
use Rattle.answer.specs.Refusal.{refusal_no}

pub refusal_one : (x y : Refusal) → refusal_no x ≡ refusal_no y → x ≡ y
refusal_one x y e = grind arith
