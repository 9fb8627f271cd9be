use native.Mathlib.Omega.{arith}
use mathlib.Core.Path.{sym}
use Rattle.lent.proofs.NumberLaws.{part_number, part_not}
use Rattle.numbers.proofs.number.U16Number.get.Goals as goal

pub returns-in-len2 : goal.returns-in-len2
returns-in-len2 c = omega (arith, part_number _ _ 2 _ c.part.ensures (omega arith) c.in-len2.len_at_least)

pub returns-in_default : goal.returns-in_default
returns-in_default c = sym (part_not _ _ 2 _ c.part.ensures (λ e. omega arith))

pub returns-in_default-2 : goal.returns-in_default-2
returns-in_default-2 c = sym (part_not _ _ 2 _ c.part.ensures (λ e. omega arith))
