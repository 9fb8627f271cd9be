-- Each public function's promise settles its answer and every byte behind its `&mut`. Assumes nothing.
use mathlib.Core.Path.{sym, ◌∙◌}
use Rattle.lent.proofs.Settles.{Settles}
use Rattle.slot.proofs.fit.is_line_fit.Kinds as is-line-fit-kinds
use Rattle.slot.proofs.fit.is_line_fit.Reads as is-line-fit
use Rattle.slot.proofs.fit.is_in_range.Kinds as is-in-range-kinds
use Rattle.slot.proofs.fit.is_in_range.Reads as is_in_range
use Rattle.slot.proofs.fit.is_fit.Kinds as is-fit-kinds
use Rattle.slot.proofs.fit.is_fit.Reads as is-fit
use Rattle.slot.proofs.parts.Cut.has_more.Kinds as has-more-kinds
use Rattle.slot.proofs.parts.Cut.has_more.Reads as has-more

pub is_line_fit_answer : Settles is-line-fit-kinds.ps is-line-fit-kinds.r is-line-fit.Post (λ κs r s. r)
is_line_fit_answer κs a x y s t f g = f ∙ sym g

pub is_in_range_answer : Settles is-in-range-kinds.ps is-in-range-kinds.r is_in_range.Post (λ κs r s. r)
is_in_range_answer κs a x y s t f g = f ∙ sym g

pub is_fit_answer : Settles is-fit-kinds.ps is-fit-kinds.r is-fit.Post (λ κs r s. r)
is_fit_answer κs a x y s t f g = f ∙ sym g

pub has_more_answer : Settles has-more-kinds.ps has-more-kinds.r has-more.Post (λ κs r s. r)
has_more_answer κs a x y s t f g = f ∙ sym g
