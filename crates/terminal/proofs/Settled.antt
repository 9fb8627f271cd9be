-- Each public function's promise settles its answer and every byte behind its `&mut`. Assumes nothing.
use mathlib.Core.Path.{sym, ◌∙◌}
use Rattle.lent.proofs.Settles.{Settles}
use Rattle.terminal.proofs.calls.greet.Kinds as greet-kinds
use Rattle.terminal.proofs.calls.greet.Reads as greet
use Rattle.terminal.proofs.calls.event.Kinds as event-kinds
use Rattle.terminal.proofs.calls.event.Reads as event
use Rattle.terminal.proofs.calls.collect.Kinds as collect-kinds
use Rattle.terminal.proofs.calls.collect.Reads as collect
use Rattle.terminal.proofs.calls.remove.Kinds as remove-kinds
use Rattle.terminal.proofs.calls.remove.Reads as remove

pub greet-answer : Settles greet-kinds.ps greet-kinds.r greet.Post (λ κs r s. r)
greet-answer κs a x y s t f g = f ∙ sym g

pub event-answer : Settles event-kinds.ps event-kinds.r event.Post (λ κs r s. r)
event-answer κs a x y s t f g = f.0 ∙ sym g.0

pub event_pool_lem : Settles event-kinds.ps event-kinds.r event.Post (λ κs r s. s.0.now)
event_pool_lem κs a x y s t f g = f.1 ∙ sym g.1

pub collect-answer : Settles collect-kinds.ps collect-kinds.r collect.Post (λ κs r s. r)
collect-answer κs a x y s t f g = f.0 ∙ sym g.0

pub collect_pool : Settles collect-kinds.ps collect-kinds.r collect.Post (λ κs r s. s.0.now)
collect_pool κs a x y s t f g = f.1.0 ∙ sym g.1.0

pub collect-output : Settles collect-kinds.ps collect-kinds.r collect.Post (λ κs r s. s.1.1.1.0.now)
collect-output κs a x y s t f g = f.1.1 ∙ sym g.1.1

pub remove-answer : Settles remove-kinds.ps remove-kinds.r remove.Post (λ κs r s. r)
remove-answer κs a x y s t f g = f.0 ∙ sym g.0

pub remove_pool : Settles remove-kinds.ps remove-kinds.r remove.Post (λ κs r s. s.0.now)
remove_pool κs a x y s t f g = f.1 ∙ sym g.1
