-- Each public function's promise settles its answer and every byte behind its `&mut`. Assumes nothing.
use mathlib.Core.Path.{sym, ◌∙◌}
use Rattle.lent.proofs.Settles.{Settles}
use Rattle.taking.proofs.calls.asks_cell.Kinds as asks-cell-kinds
use Rattle.taking.proofs.calls.asks_cell.Reads as asks-cell
use Rattle.taking.proofs.calls.take.Kinds as take-kinds
use Rattle.taking.proofs.calls.take.Reads as take

pub asks-cell-answer : Settles asks-cell-kinds.ps asks-cell-kinds.r asks-cell.Post (λ κs r s. r)
asks-cell-answer κs a x y s t f g = f ∙ sym g

pub take-answer : Settles take-kinds.ps take-kinds.r take.Post (λ κs r s. r)
take-answer κs a x y s t f g = f ∙ sym g
