-- The public function's promise settles its answer. Assumes nothing.
use mathlib.Core.Path.{sym, ◌∙◌}
use Rattle.lent.proofs.Settles.{Settles}
use Rattle.reset.proofs.reading.read.Kinds as read-kinds
use Rattle.reset.proofs.reading.read.Reads as read

pub read_answer : Settles read-kinds.ps read-kinds.r read.Post (λ κs r s. r)
read_answer κs a x y s t f g = f.0 ∙ sym g.0
