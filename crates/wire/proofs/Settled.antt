-- Each public function's promise settles its answer and every byte behind its `&mut`. Assumes nothing.
use mathlib.Core.Path.{sym, ◌∙◌}
use Rattle.lent.proofs.Settles.{Settles}
use Rattle.wire.proofs.building.send.Kinds as send-kinds
use Rattle.wire.proofs.building.send.Reads as send
use Rattle.wire.proofs.form.is_command.Kinds as is-command-kinds
use Rattle.wire.proofs.form.is_command.Reads as is-command

pub send_answer : Settles send-kinds.ps send-kinds.r send.Post (λ κs r s. r)
send_answer κs a x y s t f g = f.0 ∙ sym g.0

pub send_bytes : Settles send-kinds.ps send-kinds.r send.Post (λ κs r s. s.0.now)
send_bytes κs a x y s t f g = f.1 ∙ sym g.1

pub is_command-answer : Settles is-command-kinds.ps is-command-kinds.r is-command.Post (λ κs r s. r)
is_command-answer κs a x y s t f g = f ∙ sym g
