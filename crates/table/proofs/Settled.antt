-- Each public function's promise settles its answer and every byte behind its `&mut`. Assumes nothing.
use mathlib.Core.Path.{sym, ◌∙◌}
use Rattle.lent.proofs.Settles.{Settles}
use Rattle.table.proofs.places.pool.Kinds as pool-kinds
use Rattle.table.proofs.places.pool.Reads as pool
use Rattle.table.proofs.places.entry.Kinds as entry-kinds
use Rattle.table.proofs.places.entry.Reads as entry
use Rattle.table.proofs.places.command.Kinds as command-kinds
use Rattle.table.proofs.places.command.Reads as command
use Rattle.table.proofs.places.store.Kinds as store-kinds
use Rattle.table.proofs.places.store.Reads as store
use Rattle.table.proofs.places.keep.Kinds as keep-kinds
use Rattle.table.proofs.places.keep.Reads as keep
use Rattle.table.proofs.soundness.is_sound.Kinds as is-sound-kinds
use Rattle.table.proofs.soundness.is_sound.Reads as is_sound_lem
use Rattle.table.proofs.fresh.lay_out.Kinds as lay-out-kinds
use Rattle.table.proofs.fresh.lay_out.Reads as lay-out

pub pool_shown : Settles pool-kinds.ps pool-kinds.r pool.Post (λ κs r s. r.now)
pool_shown κs a x y s t f g = f ∙ sym g

pub entry_shown : Settles entry-kinds.ps entry-kinds.r entry.Post (λ κs r s. r.now)
entry_shown κs a x y s t f g = f ∙ sym g

pub command_shown : Settles command-kinds.ps command-kinds.r command.Post (λ κs r s. r.now)
command_shown κs a x y s t f g = f ∙ sym g

pub store_bytes : Settles store-kinds.ps store-kinds.r store.Post (λ κs r s. s.0.now)
store_bytes κs a x y s t f g = f ∙ sym g

pub keep_bytes : Settles keep-kinds.ps keep-kinds.r keep.Post (λ κs r s. s.0.now)
keep_bytes κs a x y s t f g = f ∙ sym g

pub is_sound-answer : Settles is-sound-kinds.ps is-sound-kinds.r is_sound_lem.Post (λ κs r s. r)
is_sound-answer κs a x y s t f g = f ∙ sym g

pub lay_out_answer : Settles lay-out-kinds.ps lay-out-kinds.r lay-out.Post (λ κs r s. r)
lay_out_answer κs a x y s t f g = f.0 ∙ sym g.0

pub lay_out_bytes : Settles lay-out-kinds.ps lay-out-kinds.r lay-out.Post (λ κs r s. s.0.now)
lay_out_bytes κs a x y s t f g = f.1 ∙ sym g.1
