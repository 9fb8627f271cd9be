-- Each public function's promise settles its answer and every byte behind its `&mut`. Assumes nothing.
use mathlib.Core.Path.{sym, ◌∙◌}
use Rattle.lent.proofs.Settles.{Settles}
use Rattle.response.proofs.response.response_length.Kinds as response-length-kinds
use Rattle.response.proofs.response.response_length.Reads as response-length
use Rattle.response.proofs.response.copy_out.Kinds as copy-out-kinds
use Rattle.response.proofs.response.copy_out.Reads as copy-out

pub response-length-answer : Settles response-length-kinds.ps response-length-kinds.r response-length.Post (λ κs r s. r)
response-length-answer κs a x y s t f g = f ∙ sym g

pub copy_out_answer : Settles copy-out-kinds.ps copy-out-kinds.r copy-out.Post (λ κs r s. r)
copy_out_answer κs a x y s t f g = f.0 ∙ sym g.0

pub copy_out_bytes : Settles copy-out-kinds.ps copy-out-kinds.r copy-out.Post (λ κs r s. s.1.1.0.now)
copy_out_bytes κs a x y s t f g = f.1 ∙ sym g.1
