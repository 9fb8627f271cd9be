-- Each public function's promise settles every byte behind its `&mut`. Assumes nothing.
use mathlib.Core.Path.{sym, ◌∙◌}
use Rattle.lent.proofs.Settles.{Settles}
use Rattle.outgoing.proofs.none.Kinds as none-kinds
use Rattle.outgoing.proofs.none.Reads as none
use Rattle.outgoing.proofs.finish.Kinds as finish-kinds
use Rattle.outgoing.proofs.finish.Reads as finish
use Rattle.outgoing.proofs.attach.Kinds as attach-kinds
use Rattle.outgoing.proofs.attach.Reads as attach
use Rattle.outgoing.proofs.command.Kinds as command-kinds
use Rattle.outgoing.proofs.command.Reads as command

pub none-report : Settles none-kinds.ps none-kinds.r none.Post (λ κs r s. r)
none-report κs a x y s t f g = f ∙ sym g

pub finish-table : Settles finish-kinds.ps finish-kinds.r finish.Post (λ κs r s. s.0.now)
finish-table κs a x y s t f g = f.0 ∙ sym g.0

pub finish-output : Settles finish-kinds.ps finish-kinds.r finish.Post (λ κs r s. s.1.1.1.1.0.now)
finish-output κs a x y s t f g = f.1.0 ∙ sym g.1.0

pub finish-record : Settles finish-kinds.ps finish-kinds.r finish.Post (λ κs r s. s.1.1.1.1.1.0.now)
finish-record κs a x y s t f g = f.1.1 ∙ sym g.1.1

pub attach-table : Settles attach-kinds.ps attach-kinds.r attach.Post (λ κs r s. s.0.now)
attach-table κs a x y s t f g = f.0 ∙ sym g.0

pub attach-output : Settles attach-kinds.ps attach-kinds.r attach.Post (λ κs r s. s.1.1.1.0.now)
attach-output κs a x y s t f g = f.1.0 ∙ sym g.1.0

pub attach_record : Settles attach-kinds.ps attach-kinds.r attach.Post (λ κs r s. s.1.1.1.1.0.now)
attach_record κs a x y s t f g = f.1.1 ∙ sym g.1.1

pub command-table : Settles command-kinds.ps command-kinds.r command.Post (λ κs r s. s.0.now)
command-table κs a x y s t f g = f.0 ∙ sym g.0

pub command-output : Settles command-kinds.ps command-kinds.r command.Post (λ κs r s. s.1.1.1.0.now)
command-output κs a x y s t f g = f.1.0 ∙ sym g.1.0

pub command_record : Settles command-kinds.ps command-kinds.r command.Post (λ κs r s. s.1.1.1.1.0.now)
command_record κs a x y s t f g = f.1.1 ∙ sym g.1.1
