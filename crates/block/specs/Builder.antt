-- Sending a block.
use Rattle.std.specs.Prelude.{ℕ, ◌+◌, Bool, cond, ◌&&◌, List, leb, length}
use Rattle.lent.specs.Place.{splice}
use Rattle.block.specs.Block.{frame, block_of}

-- LEN at most 254, and the output holds the block
abbrev pub fits_in : (out inf : List ℕ) → Bool
fits_in out inf = leb (length inf) 254 && leb (frame + length inf) (length out)

-- how many bytes are written; 0 where the block does not fit
unfoldable pub built_length : (out inf : List ℕ) → ℕ
built_length out inf = cond (fits_in out inf) (frame + length inf) 0

-- the block at the front of the output, and the rest untouched; where it does not fit, all of it
unfoldable pub built_out : (out : List ℕ) (pcb : ℕ) (inf : List ℕ) → List ℕ
built_out out p inf = cond (fits_in out inf) (splice out 0 (block_of p inf)) out
