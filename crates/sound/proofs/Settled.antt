-- Each public function's promise settles its answer. Assumes nothing.
use mathlib.Core.Path.{sym, ◌∙◌}
use Rattle.lent.proofs.Settles.{Settles}
use Rattle.sound.proofs.sound.is_sound.Kinds as is-sound-kinds
use Rattle.sound.proofs.sound.is_sound.Reads as is_sound_lem

pub is_sound-answer : Settles is-sound-kinds.ps is-sound-kinds.r is_sound_lem.Post (λ κs r s. r)
is_sound-answer κs a x y s t f g = f ∙ sym g
