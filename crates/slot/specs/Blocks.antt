-- Where the last I-block was cut from its command, and the block to send.
use Rattle.std.specs.Prelude.{ℕ, ◌+◌, Bool, true, false, cond, List, [], ◌∷◌, ltb}
use Rattle.lent.specs.Place.{window}
use Rattle.block.specs.Block.{block_of}
use Rattle.block.specs.Builder.{built_length, built_out}
use Rattle.slot.specs.declared.parts.Cut.{Cut}
use Rattle.slot.specs.declared.parts.Send.{Send}
use Rattle.slot.specs.declared.parts.Send.TheVariants.{Nothing, I, R, S}

-- more of the command is left after the last I-block
abbrev pub is_more : Cut → Bool
is_more c = ltb (c.from + c.len) c.whole

-- ---- the block to send, with the bytes of the command

abbrev pub is_sent : Send → Bool
is_sent Nothing = false
is_sent (I pcb from len) = true
is_sent (R pcb) = true
is_sent (S pcb byte) = true

abbrev pub pcb_in : Send → ℕ
pcb_in Nothing = 0
pcb_in (I pcb from len) = pcb
pcb_in (R pcb) = pcb
pcb_in (S pcb byte) = pcb

abbrev pub inf_in : Send → (command : List ℕ) → List ℕ
inf_in Nothing command = []
inf_in (I pcb from len) command = window command from len
inf_in (R pcb) command = []
inf_in (S pcb byte) command = byte ∷ []

unfoldable pub sent_length : (out : List ℕ) → Send → (command : List ℕ) → ℕ
sent_length out b command = cond (is_sent b) (built_length out (inf_in b command)) 0

unfoldable pub sent_out : (out : List ℕ) → Send → (command : List ℕ) → List ℕ
sent_out out b command = cond (is_sent b) (built_out out (pcb_in b) (inf_in b command)) out

-- its bytes
unfoldable pub bytes_of : Send → (command : List ℕ) → List ℕ
bytes_of b command = cond (is_sent b) (block_of (pcb_in b) (inf_in b command)) []
