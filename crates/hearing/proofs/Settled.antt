-- The promise of an event settles every byte behind its `&mut`. Assumes nothing.
use mathlib.Core.Path.{sym, ◌∙◌}
use Rattle.lent.proofs.Settles.{Settles}
use Rattle.hearing.proofs.event.Kinds as event-kinds
use Rattle.hearing.proofs.event.Reads as event

pub event-table : Settles event-kinds.ps event-kinds.r event.Post (λ κs r s. s.0.now)
event-table κs a x y s t f g = f.0 ∙ sym g.0

pub event-output : Settles event-kinds.ps event-kinds.r event.Post (λ κs r s. s.1.1.1.1.0.now)
event-output κs a x y s t f g = f.1.0 ∙ sym g.1.0

pub event_record_lem : Settles event-kinds.ps event-kinds.r event.Post (λ κs r s. s.1.1.1.1.1.0.now)
event_record_lem κs a x y s t f g = f.1.1 ∙ sym g.1.1
