-- Each public function's promise settles its answer. Assumes nothing.
use mathlib.Core.Path.{sym, ◌∙◌}
use Rattle.lent.proofs.Settles.{Settles}
use Rattle.block.proofs.check.lrc.Kinds as lrc-kinds
use Rattle.block.proofs.check.lrc.Reads as lrc
use Rattle.block.proofs.reader.read.Kinds as read-kinds
use Rattle.block.proofs.reader.read.Reads as read
use Rattle.block.proofs.reader.inf.Kinds as inf-kinds
use Rattle.block.proofs.reader.inf.Reads as inf

pub lrc_answer : Settles lrc-kinds.ps lrc-kinds.r lrc.Post (λ κs r s. r)
lrc_answer κs a x y s t f g = f ∙ sym g

pub read_answer : Settles read-kinds.ps read-kinds.r read.Post (λ κs r s. r)
read_answer κs a x y s t f g = f ∙ sym g

-- the bytes of the part that is handed back

pub inf_shown : Settles inf-kinds.ps inf-kinds.r inf.Post (λ κs r s. r.now)
inf_shown κs a x y s t f g = f ∙ sym g
