-- The block that is built, in an output of 258 bytes or more: its bytes at the front, and the rest stays. Assumes nothing.
use Prim.Native.Nat.{ℕ, ◌+◌, ◌≤◌}
use mathlib.Core.Path.{◌≡◌, refl, sym}
use mathlib.Core.Bool.{true}
use mathlib.Core.List.{List}
use native.Mathlib.Omega.{arith}
use lib.ListN.{length}
use borrow.Author.Tests.{le-leb}
use Rattle.lent.specs.Place.{splice}
use Rattle.lent.proofs.PlaceLaws.{splice_none}
use Rattle.block.specs.Block.{block_of}
use Rattle.block.specs.Builder.{fits_in, built_length, built_out}
use Rattle.block.proofs.BuilderLaws.{length_block}
use Rattle.slot.specs.declared.parts.Send.{Send}
use Rattle.slot.specs.declared.parts.Send.TheVariants.{Nothing, I, R, S}
use Rattle.slot.specs.Blocks.{inf_in, sent_length, sent_out, bytes_of}

built_block : (out : List ℕ) (p : ℕ) (inf : List ℕ) → length inf ≤ 254 → 258 ≤ length out
    → (built_out out p inf ≡ splice out 0 (block_of p inf)) × (built_length out inf ≡ length (block_of p inf))
unfolding built_out built_length
built_block out p inf few room =
    let e : fits_in out inf ≡ true = rw (le-leb (length inf) 254 few) (le-leb (4 + length inf) (length out) (omega arith)) in
    (rw e, rw e (sym (length_block p inf)))

pub built : (out : List ℕ) (b : Send) (bs : List ℕ) → length (inf_in b bs) ≤ 254 → 258 ≤ length out
    → (sent_out out b bs ≡ splice out 0 (bytes_of b bs)) × (sent_length out b bs ≡ length (bytes_of b bs))
unfolding sent_out sent_length bytes_of
built out Nothing bs few room = (sym (splice_none out 0), refl)
built out (I pcb from len) bs few room = built_block out pcb _ few room
built out (R pcb) bs few room = built_block out pcb _ few room
built out (S pcb byte) bs few room = built_block out pcb _ few room
