-- Each public function's promise settles its answer. Assumes nothing.
use mathlib.Core.Path.{sym, ◌∙◌}
use Rattle.lent.proofs.Settles.{Settles}
use Rattle.shares.proofs.grant.given.Kinds as given-kinds
use Rattle.shares.proofs.grant.given.Reads as given
use Rattle.shares.proofs.grant.lack.Kinds as lack-kinds
use Rattle.shares.proofs.grant.lack.Reads as lack

pub given_answer : Settles given-kinds.ps given-kinds.r given.Post (λ κs r s. r)
given_answer κs a x y s t f g = f ∙ sym g

pub lack-answer : Settles lack-kinds.ps lack-kinds.r lack.Post (λ κs r s. r)
lack-answer κs a x y s t f g = f.0 ∙ sym g.0
