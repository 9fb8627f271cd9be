-- Each public function's promise settles its answer and every byte behind its `&mut`. Assumes nothing.
use mathlib.Core.Path.{sym, ◌∙◌}
use Rattle.lent.proofs.Settles.{Settles}
use Rattle.greeting.proofs.outcome.rest.Kinds as rest-kinds
use Rattle.greeting.proofs.outcome.rest.Reads as rest
use Rattle.greeting.proofs.outcome.end.Kinds as end-kinds
use Rattle.greeting.proofs.outcome.end.Reads as end
use Rattle.greeting.proofs.greeting.attach.Kinds as attach-kinds
use Rattle.greeting.proofs.greeting.attach.Reads as attach
use Rattle.greeting.proofs.greeting.greet.Kinds as greet-kinds
use Rattle.greeting.proofs.greeting.greet.Reads as greet

pub rest_answer : Settles rest-kinds.ps rest-kinds.r rest.Post (λ κs r s. r)
rest_answer κs a x y s t f g = f ∙ sym g

pub end_answer : Settles end-kinds.ps end-kinds.r end.Post (λ κs r s. r)
end_answer κs a x y s t f g = f ∙ sym g

pub attach-answer : Settles attach-kinds.ps attach-kinds.r attach.Post (λ κs r s. r)
attach-answer κs a x y s t f g = f ∙ sym g

pub greet-answer : Settles greet-kinds.ps greet-kinds.r greet.Post (λ κs r s. r)
greet-answer κs a x y s t f g = f ∙ sym g
