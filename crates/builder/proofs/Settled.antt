-- The public function's promise settles its answer and every byte behind its `&mut`. Assumes nothing.
use mathlib.Core.Path.{sym, ◌∙◌}
use Rattle.lent.proofs.Settles.{Settles}
use Rattle.builder.proofs.builder.build.Kinds as build-kinds
use Rattle.builder.proofs.builder.build.Reads as build

-- the length that is answered, and all of the output
pub build_answer : Settles build-kinds.ps build-kinds.r build.Post (λ κs r s. r)
build_answer κs a x y s t f g = f.0 ∙ sym g.0

pub build_bytes : Settles build-kinds.ps build-kinds.r build.Post (λ κs r s. s.0.now)
build_bytes κs a x y s t f g = f.1 ∙ sym g.1
