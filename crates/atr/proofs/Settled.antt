-- The public function's promise settles its answer. Assumes nothing.
use mathlib.Core.Path.{sym, ◌∙◌}
use Rattle.lent.proofs.Settles.{Settles}
use Rattle.atr.proofs.reader.on_terms.Kinds as on-terms-kinds
use Rattle.atr.proofs.reader.on_terms.Reads as on-terms
use Rattle.atr.proofs.refusal.U8FromRefusal.from.Kinds as number-kinds
use Rattle.atr.proofs.refusal.U8FromRefusal.from.Reads as number

pub on_terms_answer : Settles on-terms-kinds.ps on-terms-kinds.r on-terms.Post (λ κs r s. r)
on_terms_answer κs a x y s t f g = f ∙ sym g

pub number_answer : Settles number-kinds.ps number-kinds.r number.Post (λ κs r s. r)
number_answer κs a x y s t f g = f ∙ sym g
