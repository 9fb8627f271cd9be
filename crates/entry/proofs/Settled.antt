-- Each public function's promise settles its answer. Assumes nothing.
use mathlib.Core.Path.{sym, ◌∙◌}
use Rattle.lent.proofs.Settles.{Settles}
use Rattle.entry.proofs.reading.line.Kinds as line-kinds
use Rattle.entry.proofs.reading.line.Reads as line
use Rattle.entry.proofs.reading.sent.Kinds as sent-kinds
use Rattle.entry.proofs.reading.sent.Reads as sent
use Rattle.entry.proofs.reading.talk.Kinds as talk-kinds
use Rattle.entry.proofs.reading.talk.Reads as talk
use Rattle.entry.proofs.reading.slot.Kinds as slot-kinds
use Rattle.entry.proofs.reading.slot.Reads as slot
use Rattle.entry.proofs.reading.state.Kinds as state-kinds
use Rattle.entry.proofs.reading.state.Reads as state
use Rattle.entry.proofs.reading.is_formed.Kinds as is-formed-kinds
use Rattle.entry.proofs.reading.is_formed.Reads as is-formed
use Rattle.entry.proofs.writing.bytes.Kinds as bytes-kinds
use Rattle.entry.proofs.writing.bytes.Reads as bytes
use Rattle.entry.proofs.states.StateTryFromU8.try_from.Kinds as decoded-kinds
use Rattle.entry.proofs.states.StateTryFromU8.try_from.Reads as decoded
use Rattle.entry.proofs.states.U8FromState.from.Kinds as number-kinds
use Rattle.entry.proofs.states.U8FromState.from.Reads as number
use Rattle.entry.proofs.states.StateFromSlot.from.Kinds as of-slot-kinds
use Rattle.entry.proofs.states.StateFromSlot.from.Reads as of-slot

pub line-answer : Settles line-kinds.ps line-kinds.r line.Post (λ κs r s. r)
line-answer κs a x y s t f g = f ∙ sym g

pub sent-answer : Settles sent-kinds.ps sent-kinds.r sent.Post (λ κs r s. r)
sent-answer κs a x y s t f g = f ∙ sym g

pub talk_answer : Settles talk-kinds.ps talk-kinds.r talk.Post (λ κs r s. r)
talk_answer κs a x y s t f g = f ∙ sym g

pub slot_answer : Settles slot-kinds.ps slot-kinds.r slot.Post (λ κs r s. r)
slot_answer κs a x y s t f g = f ∙ sym g

pub state_answer : Settles state-kinds.ps state-kinds.r state.Post (λ κs r s. r)
state_answer κs a x y s t f g = f.0 ∙ sym g.0

pub is_formed-answer : Settles is-formed-kinds.ps is-formed-kinds.r is-formed.Post (λ κs r s. r)
is_formed-answer κs a x y s t f g = f ∙ sym g

pub bytes-answer : Settles bytes-kinds.ps bytes-kinds.r bytes.Post (λ κs r s. r)
bytes-answer κs a x y s t f g = f ∙ sym g

pub decoded_answer : Settles decoded-kinds.ps decoded-kinds.r decoded.Post (λ κs r s. r)
decoded_answer κs a x y s t f g = f.0 ∙ sym g.0

pub number_answer : Settles number-kinds.ps number-kinds.r number.Post (λ κs r s. r)
number_answer κs a x y s t f g = f ∙ sym g

pub of_slot_answer : Settles of-slot-kinds.ps of-slot-kinds.r of-slot.Post (λ κs r s. r)
of_slot_answer κs a x y s t f g = f.0 ∙ sym g.0
