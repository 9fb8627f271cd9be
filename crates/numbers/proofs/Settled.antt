-- Each public function's promise settles its answer and every byte behind its `&mut`. Assumes nothing.
use mathlib.Core.Path.{sym, ◌∙◌}
use Rattle.lent.proofs.Settles.{Settles}
use Rattle.numbers.proofs.number.U8Number.get.Kinds as get8-kinds
use Rattle.numbers.proofs.number.U8Number.get.Reads as get8
use Rattle.numbers.proofs.number.U8Number.put.Kinds as put8-kinds
use Rattle.numbers.proofs.number.U8Number.put.Reads as put8
use Rattle.numbers.proofs.number.U16Number.get.Kinds as get16-kinds
use Rattle.numbers.proofs.number.U16Number.get.Reads as get16
use Rattle.numbers.proofs.number.U16Number.put.Kinds as put16-kinds
use Rattle.numbers.proofs.number.U16Number.put.Reads as put16
use Rattle.numbers.proofs.number.U32Number.get.Kinds as get32-kinds
use Rattle.numbers.proofs.number.U32Number.get.Reads as get32
use Rattle.numbers.proofs.number.U32Number.put.Kinds as put32-kinds
use Rattle.numbers.proofs.number.U32Number.put.Reads as put32
use Rattle.numbers.proofs.number.wide.Kinds as wide-kinds
use Rattle.numbers.proofs.number.wide.Reads as wide

pub get8_answer : Settles get8-kinds.ps get8-kinds.r get8.Post (λ κs r s. r)
get8_answer κs a x y s t f g = f ∙ sym g

pub put8_answer : Settles put8-kinds.ps put8-kinds.r put8.Post (λ κs r s. r)
put8_answer κs a x y s t f g = f.0 ∙ sym g.0

pub put8_bytes : Settles put8-kinds.ps put8-kinds.r put8.Post (λ κs r s. s.1.0.now)
put8_bytes κs a x y s t f g = f.1 ∙ sym g.1

pub get16_answer : Settles get16-kinds.ps get16-kinds.r get16.Post (λ κs r s. r)
get16_answer κs a x y s t f g = f ∙ sym g

pub put16_answer : Settles put16-kinds.ps put16-kinds.r put16.Post (λ κs r s. r)
put16_answer κs a x y s t f g = f.0 ∙ sym g.0

pub put16_bytes : Settles put16-kinds.ps put16-kinds.r put16.Post (λ κs r s. s.1.0.now)
put16_bytes κs a x y s t f g = f.1 ∙ sym g.1

pub get32_answer : Settles get32-kinds.ps get32-kinds.r get32.Post (λ κs r s. r)
get32_answer κs a x y s t f g = f ∙ sym g

pub put32_answer : Settles put32-kinds.ps put32-kinds.r put32.Post (λ κs r s. r)
put32_answer κs a x y s t f g = f.0 ∙ sym g.0

pub put32_bytes : Settles put32-kinds.ps put32-kinds.r put32.Post (λ κs r s. s.1.0.now)
put32_bytes κs a x y s t f g = f.1 ∙ sym g.1

pub wide_answer : Settles wide-kinds.ps wide-kinds.r wide.Post (λ κs r s. r)
wide_answer κs a x y s t f g = f.0 ∙ sym g.0
