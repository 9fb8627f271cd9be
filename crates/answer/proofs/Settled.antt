-- Each public function's promise settles every byte behind its `&mut`. Assumes nothing.
use mathlib.Core.Path.{sym, ◌∙◌}
use Rattle.lent.proofs.Settles.{Settles}
use Rattle.answer.proofs.refuse.Kinds as refuse-kinds
use Rattle.answer.proofs.refuse.Reads as refuse
use Rattle.answer.proofs.tell.Kinds as tell-kinds
use Rattle.answer.proofs.tell.Reads as tell
use Rattle.answer.proofs.refusal.U8FromRefusal.from.Kinds as number-kinds
use Rattle.answer.proofs.refusal.U8FromRefusal.from.Reads as number
use Rattle.answer.proofs.refusal.RefusalFromAtrRefusal.from.Kinds as of-atr-kinds
use Rattle.answer.proofs.refusal.RefusalFromAtrRefusal.from.Reads as of-atr

pub refuse_record : Settles refuse-kinds.ps refuse-kinds.r refuse.Post (λ κs r s. s.0.now)
refuse_record κs a x y s t f g = f ∙ sym g

pub tell_record : Settles tell-kinds.ps tell-kinds.r tell.Post (λ κs r s. s.0.now)
tell_record κs a x y s t f g = f ∙ sym g

pub number_answer : Settles number-kinds.ps number-kinds.r number.Post (λ κs r s. r)
number_answer κs a x y s t f g = f ∙ sym g

pub of_atr_answer : Settles of-atr-kinds.ps of-atr-kinds.r of-atr.Post (λ κs r s. r)
of_atr_answer κs a x y s t f g = f.0 ∙ sym g.0
