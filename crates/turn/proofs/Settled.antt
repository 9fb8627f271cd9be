-- Each public function's promise settles its answer and every byte behind its `&mut`. Assumes nothing.
use mathlib.Core.Path.{sym, ◌∙◌}
use Rattle.lent.proofs.Settles.{Settles}
use Rattle.turn.proofs.calls.command.Kinds as command-kinds
use Rattle.turn.proofs.calls.command.Reads as command
use Rattle.turn.proofs.calls.hear.Kinds as hear-kinds
use Rattle.turn.proofs.calls.hear.Reads as hear

pub command-answer : Settles command-kinds.ps command-kinds.r command.Post (λ κs r s. r)
command-answer κs a x y s t f g = f ∙ sym g

pub hear_answer : Settles hear-kinds.ps hear-kinds.r hear.Post (λ κs r s. r)
hear_answer κs a x y s t f g = f ∙ sym g
