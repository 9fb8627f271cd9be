-- Each public function's promise settles its answer and every byte behind its `&mut`. Assumes nothing.
use mathlib.Core.Path.{sym, ◌∙◌}
use Rattle.lent.proofs.Settles.{Settles}
use Rattle.pool.proofs.fresh.lay_out.Kinds as lay-out-kinds
use Rattle.pool.proofs.fresh.lay_out.Reads as lay-out
use Rattle.pool.proofs.storing.append.Kinds as append-kinds
use Rattle.pool.proofs.storing.append.Reads as append
use Rattle.pool.proofs.freeing.release.Kinds as release-kinds
use Rattle.pool.proofs.freeing.release.Reads as release

pub lay_out_answer : Settles lay-out-kinds.ps lay-out-kinds.r lay-out.Post (λ κs r s. r)
lay_out_answer κs a x y s t f g = f.0 ∙ sym g.0

pub lay_out_bytes : Settles lay-out-kinds.ps lay-out-kinds.r lay-out.Post (λ κs r s. s.0.now)
lay_out_bytes κs a x y s t f g = f.1 ∙ sym g.1

pub append-answer : Settles append-kinds.ps append-kinds.r append.Post (λ κs r s. r)
append-answer κs a x y s t f g = f.0 ∙ sym g.0

pub append-bytes : Settles append-kinds.ps append-kinds.r append.Post (λ κs r s. s.0.now)
append-bytes κs a x y s t f g = f.1 ∙ sym g.1

pub release_bytes : Settles release-kinds.ps release-kinds.r release.Post (λ κs r s. s.0.now)
release_bytes κs a x y s t f g = f ∙ sym g
