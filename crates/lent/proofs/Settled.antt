-- Each public function's promise settles its answer and every byte behind its `&mut`. Assumes nothing.
use mathlib.Core.Path.{sym, ◌∙◌}
use Rattle.lent.proofs.Settles.{Settles}
use Rattle.lent.proofs.place.lies_within.Kinds as lies-within-kinds
use Rattle.lent.proofs.place.lies_within.Reads as lies_within
use Rattle.lent.proofs.place.part.Kinds as part-kinds
use Rattle.lent.proofs.place.part.Reads as part
use Rattle.lent.proofs.place.put.Kinds as put-kinds
use Rattle.lent.proofs.place.put.Reads as put
use Rattle.lent.proofs.run.fill.Kinds as fill-kinds
use Rattle.lent.proofs.run.fill.Reads as fill

-- what a read answers

pub lies_within-answer : Settles lies-within-kinds.ps lies-within-kinds.r lies_within.Post (λ κs r s. r)
lies_within-answer κs a x y s t f g = f ∙ sym g

pub part_shown : Settles part-kinds.ps part-kinds.r part.Post (λ κs r s. r.now)
part_shown κs a x y s t f g = f ∙ sym g

-- what a write answers, and the bytes that it leaves

pub put-answer : Settles put-kinds.ps put-kinds.r put.Post (λ κs r s. r)
put-answer κs a x y s t f g = f.0 ∙ sym g.0

pub put-bytes : Settles put-kinds.ps put-kinds.r put.Post (λ κs r s. s.0.now)
put-bytes κs a x y s t f g = f.1 ∙ sym g.1

pub fill_answer : Settles fill-kinds.ps fill-kinds.r fill.Post (λ κs r s. r)
fill_answer κs a x y s t f g = f.0 ∙ sym g.0

pub fill_bytes : Settles fill-kinds.ps fill-kinds.r fill.Post (λ κs r s. s.0.now)
fill_bytes κs a x y s t f g = f.1 ∙ sym g.1
