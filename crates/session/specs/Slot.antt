-- What a slot is, in the paper's words: no cell number, no place in a table.
use Rattle.std.specs.Prelude.{ℕ, Bool, List, [], ◌∷◌, length}
use Rattle.block.specs.Block.{i_pcb, r_pcb, block_of}

-- ---- blocks that we send

pub data Block : Type 0 where
  i_block : (number : ℕ) (more : Bool) (inf : List ℕ) → Block
  -- nibble 0 is error-free
  r_block : (number nibble : ℕ) → Block
  -- S(IFS request) with FE
  ifs_request : Block
  -- E1 or E3 with n
  s_response : (pcb n : ℕ) → Block

-- its bytes
unfoldable pub wire : Block → List ℕ
wire (i_block number more inf) = block_of (i_pcb number more) inf
wire (r_block number nibble) = block_of (r_pcb number nibble) []
wire ifs_request = block_of 0xC1 (0xFE ∷ [])
wire (s_response pcb n) = block_of pcb (n ∷ [])

-- ---- the slot

-- What runs on through later commands until remove: IFSC, BWT, s the number of the last I-block sent, r the number
-- expected from the card.
pub record Line : Type 0 where
  pub ifsc : ℕ
  pub bwt : ℕ
  pub s : ℕ
  pub r : ℕ

-- A command under way.
pub record Talk : Type 0 where
  pub line : Line
  pub command : List ℕ
  -- what is left of it, to go out
  pub left : List ℕ
  -- the last I-block or error-free R-block sent
  pub standing : Block
  -- the last block sent, and its go
  pub last : Block
  pub go : ℕ
  -- C1 and C3 since the command
  pub requests : ℕ
  -- the INFs of the I-blocks accepted since the command, in order
  pub got : List (List ℕ)
  -- blocks sent since the command
  pub sent : ℕ

pub data State : Type 0 where
  empty : State
  -- the IFS request went out so many times
  greeting : Line → (sent : ℕ) → State
  ready : Line → State
  busy : Talk → State
  done : Line → (got : List (List ℕ)) → State
  ended : State

-- empty, greeting, ready, busy, done or ended: 0 to 5 in answers
abbrev pub state_no : State → ℕ
state_no empty = 0
state_no (greeting l n) = 1
state_no (ready l) = 2
state_no (busy t) = 3
state_no (done l got) = 4
state_no ended = 5

-- the I-blocks accepted since the last command while busy or done, else none
abbrev pub got_in : State → List (List ℕ)
got_in empty = []
got_in (greeting l n) = []
got_in (ready l) = []
got_in (busy t) = t.got
got_in (done l got) = got
got_in ended = []

-- cells held: one for each
abbrev pub held_in : State → ℕ
held_in x = length (got_in x)
