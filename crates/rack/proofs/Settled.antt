-- Each call's promise settles the number that it returns and every byte of the table, the output and the record. Assumes
-- nothing.
use mathlib.Core.Path.{sym, ◌∙◌}
use Rattle.lent.proofs.Settles.{Settles}
use Rattle.rack.proofs.exports.rack_open.Kinds as open-kinds
use Rattle.rack.proofs.exports.rack_open.Reads as open-reads
use Rattle.rack.proofs.exports.rack_attach.Kinds as attach-kinds
use Rattle.rack.proofs.exports.rack_attach.Reads as attach-reads
use Rattle.rack.proofs.exports.rack_command.Kinds as command-kinds
use Rattle.rack.proofs.exports.rack_command.Reads as command-reads
use Rattle.rack.proofs.exports.rack_event.Kinds as event-kinds
use Rattle.rack.proofs.exports.rack_event.Reads as event-reads
use Rattle.rack.proofs.exports.rack_collect.Kinds as collect-kinds
use Rattle.rack.proofs.exports.rack_collect.Reads as collect-reads
use Rattle.rack.proofs.exports.rack_remove.Kinds as remove-kinds
use Rattle.rack.proofs.exports.rack_remove.Reads as remove-reads

pub open_number : Settles open-kinds.ps open-kinds.r open-reads.Post (λ κs r s. r)
open_number κs a x y s t f g = f.0 ∙ sym g.0

pub open_table : Settles open-kinds.ps open-kinds.r open-reads.Post (λ κs r s. s.0.now)
open_table κs a x y s t f g = f.1.0 ∙ sym g.1.0

pub open_record : Settles open-kinds.ps open-kinds.r open-reads.Post (λ κs r s. s.1.1.1.0.now)
open_record κs a x y s t f g = f.1.1 ∙ sym g.1.1

pub attach-number : Settles attach-kinds.ps attach-kinds.r attach-reads.Post (λ κs r s. r)
attach-number κs a x y s t f g = f.0 ∙ sym g.0

pub attach-table : Settles attach-kinds.ps attach-kinds.r attach-reads.Post (λ κs r s. s.0.now)
attach-table κs a x y s t f g = f.1.0 ∙ sym g.1.0

pub attach-output : Settles attach-kinds.ps attach-kinds.r attach-reads.Post (λ κs r s. s.1.1.1.0.now)
attach-output κs a x y s t f g = f.1.1.0 ∙ sym g.1.1.0

pub attach_record : Settles attach-kinds.ps attach-kinds.r attach-reads.Post (λ κs r s. s.1.1.1.1.0.now)
attach_record κs a x y s t f g = f.1.1.1 ∙ sym g.1.1.1

pub command-number : Settles command-kinds.ps command-kinds.r command-reads.Post (λ κs r s. r)
command-number κs a x y s t f g = f.0 ∙ sym g.0

pub command-table : Settles command-kinds.ps command-kinds.r command-reads.Post (λ κs r s. s.0.now)
command-table κs a x y s t f g = f.1.0 ∙ sym g.1.0

pub command-output : Settles command-kinds.ps command-kinds.r command-reads.Post (λ κs r s. s.1.1.1.0.now)
command-output κs a x y s t f g = f.1.1.0 ∙ sym g.1.1.0

pub command_record : Settles command-kinds.ps command-kinds.r command-reads.Post (λ κs r s. s.1.1.1.1.0.now)
command_record κs a x y s t f g = f.1.1.1 ∙ sym g.1.1.1

pub event-number : Settles event-kinds.ps event-kinds.r event-reads.Post (λ κs r s. r)
event-number κs a x y s t f g = f.0 ∙ sym g.0

pub event-table : Settles event-kinds.ps event-kinds.r event-reads.Post (λ κs r s. s.0.now)
event-table κs a x y s t f g = f.1.0 ∙ sym g.1.0

pub event-output : Settles event-kinds.ps event-kinds.r event-reads.Post (λ κs r s. s.1.1.1.1.0.now)
event-output κs a x y s t f g = f.1.1.0 ∙ sym g.1.1.0

pub event_record_lem : Settles event-kinds.ps event-kinds.r event-reads.Post (λ κs r s. s.1.1.1.1.1.0.now)
event_record_lem κs a x y s t f g = f.1.1.1 ∙ sym g.1.1.1

pub collect-number : Settles collect-kinds.ps collect-kinds.r collect-reads.Post (λ κs r s. r)
collect-number κs a x y s t f g = f.0 ∙ sym g.0

pub collect-table : Settles collect-kinds.ps collect-kinds.r collect-reads.Post (λ κs r s. s.0.now)
collect-table κs a x y s t f g = f.1.0 ∙ sym g.1.0

pub collect-output : Settles collect-kinds.ps collect-kinds.r collect-reads.Post (λ κs r s. s.1.1.0.now)
collect-output κs a x y s t f g = f.1.1.0 ∙ sym g.1.1.0

pub collect_record_lem : Settles collect-kinds.ps collect-kinds.r collect-reads.Post (λ κs r s. s.1.1.1.0.now)
collect_record_lem κs a x y s t f g = f.1.1.1 ∙ sym g.1.1.1

pub remove-number : Settles remove-kinds.ps remove-kinds.r remove-reads.Post (λ κs r s. r)
remove-number κs a x y s t f g = f.0 ∙ sym g.0

pub remove-table : Settles remove-kinds.ps remove-kinds.r remove-reads.Post (λ κs r s. s.0.now)
remove-table κs a x y s t f g = f.1.0 ∙ sym g.1.0

pub remove_record_lem : Settles remove-kinds.ps remove-kinds.r remove-reads.Post (λ κs r s. s.1.1.0.now)
remove_record_lem κs a x y s t f g = f.1.1 ∙ sym g.1.1
