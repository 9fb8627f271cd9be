-- Each public function's promise settles its answer. Assumes nothing.
use mathlib.Core.Path.{sym, ◌∙◌}
use Rattle.lent.proofs.Settles.{Settles}
use Rattle.region.proofs.layout.is_holder.Kinds as is-holder-kinds
use Rattle.region.proofs.layout.is_holder.Reads as is-holder
use Rattle.region.proofs.layout.is_piece_size.Kinds as is-piece-size-kinds
use Rattle.region.proofs.layout.is_piece_size.Reads as is-piece-size
use Rattle.region.proofs.layout.Region.of.Kinds as region-of-kinds
use Rattle.region.proofs.layout.Region.of.Reads as region-of
use Rattle.region.proofs.limits.acceptable.Kinds as acceptable-kinds
use Rattle.region.proofs.limits.acceptable.Reads as acceptable
use Rattle.region.proofs.holding.held.Kinds as held-kinds
use Rattle.region.proofs.holding.held.Reads as held
use Rattle.region.proofs.holding.free.Kinds as free-kinds
use Rattle.region.proofs.holding.free.Reads as free
use Rattle.region.proofs.holding.granted.Kinds as granted-kinds
use Rattle.region.proofs.holding.granted.Reads as granted

pub is_holder_answer : Settles is-holder-kinds.ps is-holder-kinds.r is-holder.Post (λ κs r s. r)
is_holder_answer κs a x y s t f g = f ∙ sym g

pub is_piece-size-answer : Settles is-piece-size-kinds.ps is-piece-size-kinds.r is-piece-size.Post (λ κs r s. r)
is_piece-size-answer κs a x y s t f g = f ∙ sym g

pub region-of-answer : Settles region-of-kinds.ps region-of-kinds.r region-of.Post (λ κs r s. r)
region-of-answer κs a x y s t f g = f.0 ∙ sym g.0

pub acceptable_answer : Settles acceptable-kinds.ps acceptable-kinds.r acceptable.Post (λ κs r s. r)
acceptable_answer κs a x y s t f g = f ∙ sym g

pub held-answer : Settles held-kinds.ps held-kinds.r held.Post (λ κs r s. r)
held-answer κs a x y s t f g = f ∙ sym g

pub free-answer : Settles free-kinds.ps free-kinds.r free.Post (λ κs r s. r)
free-answer κs a x y s t f g = f ∙ sym g

pub granted-answer : Settles granted-kinds.ps granted-kinds.r granted.Post (λ κs r s. r)
granted-answer κs a x y s t f g = f ∙ sym g
