-- Each export's promise settles the number that it returns and every byte of the table, the output and the record: it is the
-- promise of `rack`'s call, of which that is shown. Assumes nothing.
use Rattle.lent.proofs.Settles.{Settles}
use Rattle.rack.proofs.Settled as settled
use Rattle.rack_c.proofs.rack_open.Kinds as open-kinds
use Rattle.rack_c.proofs.rack_open.Reads as open-reads
use Rattle.rack_c.proofs.rack_attach.Kinds as attach-kinds
use Rattle.rack_c.proofs.rack_attach.Reads as attach-reads
use Rattle.rack_c.proofs.rack_command.Kinds as command-kinds
use Rattle.rack_c.proofs.rack_command.Reads as command-reads
use Rattle.rack_c.proofs.rack_event.Kinds as event-kinds
use Rattle.rack_c.proofs.rack_event.Reads as event-reads
use Rattle.rack_c.proofs.rack_collect.Kinds as collect-kinds
use Rattle.rack_c.proofs.rack_collect.Reads as collect-reads
use Rattle.rack_c.proofs.rack_remove.Kinds as remove-kinds
use Rattle.rack_c.proofs.rack_remove.Reads as remove-reads

pub open_number : Settles open-kinds.ps open-kinds.r open-reads.Post (λ κs r s. r)
open_number = settled.open_number

pub open_table : Settles open-kinds.ps open-kinds.r open-reads.Post (λ κs r s. s.0.now)
open_table = settled.open_table

pub open_record : Settles open-kinds.ps open-kinds.r open-reads.Post (λ κs r s. s.1.1.1.0.now)
open_record = settled.open_record

pub attach-number : Settles attach-kinds.ps attach-kinds.r attach-reads.Post (λ κs r s. r)
attach-number = settled.attach-number

pub attach-table : Settles attach-kinds.ps attach-kinds.r attach-reads.Post (λ κs r s. s.0.now)
attach-table = settled.attach-table

pub attach-output : Settles attach-kinds.ps attach-kinds.r attach-reads.Post (λ κs r s. s.1.1.1.0.now)
attach-output = settled.attach-output

pub attach_record : Settles attach-kinds.ps attach-kinds.r attach-reads.Post (λ κs r s. s.1.1.1.1.0.now)
attach_record = settled.attach_record

pub command-number : Settles command-kinds.ps command-kinds.r command-reads.Post (λ κs r s. r)
command-number = settled.command-number

pub command-table : Settles command-kinds.ps command-kinds.r command-reads.Post (λ κs r s. s.0.now)
command-table = settled.command-table

pub command-output : Settles command-kinds.ps command-kinds.r command-reads.Post (λ κs r s. s.1.1.1.0.now)
command-output = settled.command-output

pub command_record : Settles command-kinds.ps command-kinds.r command-reads.Post (λ κs r s. s.1.1.1.1.0.now)
command_record = settled.command_record

pub event-number : Settles event-kinds.ps event-kinds.r event-reads.Post (λ κs r s. r)
event-number = settled.event-number

pub event-table : Settles event-kinds.ps event-kinds.r event-reads.Post (λ κs r s. s.0.now)
event-table = settled.event-table

pub event-output : Settles event-kinds.ps event-kinds.r event-reads.Post (λ κs r s. s.1.1.1.1.0.now)
event-output = settled.event-output

pub event_record_lem : Settles event-kinds.ps event-kinds.r event-reads.Post (λ κs r s. s.1.1.1.1.1.0.now)
event_record_lem = settled.event_record_lem

pub collect-number : Settles collect-kinds.ps collect-kinds.r collect-reads.Post (λ κs r s. r)
collect-number = settled.collect-number

pub collect-table : Settles collect-kinds.ps collect-kinds.r collect-reads.Post (λ κs r s. s.0.now)
collect-table = settled.collect-table

pub collect-output : Settles collect-kinds.ps collect-kinds.r collect-reads.Post (λ κs r s. s.1.1.0.now)
collect-output = settled.collect-output

pub collect_record_lem : Settles collect-kinds.ps collect-kinds.r collect-reads.Post (λ κs r s. s.1.1.1.0.now)
collect_record_lem = settled.collect_record_lem

pub remove-number : Settles remove-kinds.ps remove-kinds.r remove-reads.Post (λ κs r s. r)
remove-number = settled.remove-number

pub remove-table : Settles remove-kinds.ps remove-kinds.r remove-reads.Post (λ κs r s. s.0.now)
remove-table = settled.remove-table

pub remove_record_lem : Settles remove-kinds.ps remove-kinds.r remove-reads.Post (λ κs r s. s.1.1.0.now)
remove_record_lem = settled.remove_record_lem
