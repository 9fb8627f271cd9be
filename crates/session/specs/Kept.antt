-- What holds of a slot after any calls: its invariant.
use Rattle.std.specs.Prelude.{ℕ, ◌+◌, ◌*◌, ◌/◌, ◌≤◌, ◌≡◌, List, [], ◌++◌, ltb, length}
use Rattle.session.specs.Slot.{Block, i_block, r_block, ifs_request, s_response, Line, Talk, State, empty, greeting, ready, busy, done, ended}

-- IFSC from 16 to 254, BWT at most the greatest that an ATR asks for, numbers 0 or 1
pub record LineKept (l : Line) : Type 0 where
  pub low : 16 ≤ l.ifsc
  pub high : l.ifsc ≤ 254
  pub bwt : l.bwt ≤ 15371
  pub s : l.s ≤ 1
  pub r : l.r ≤ 1

-- The standing block is the last I-block sent, or R(r) error-free. An I-block is numbered s, has 1 to 254 bytes and lies
-- within the command, just before what is left, and b6 is set while more is left. An R stands only when nothing is left.
abbrev pub Standing : Block → Talk → Type 0
Standing (i_block number more inf) t =
    (number ≡ t.line.s)
    × ((more ≡ ltb 0 (length t.left))
    × ((1 ≤ length inf) × ((length inf ≤ 254) × ((gone : List ℕ) × (t.command ≡ gone ++ (inf ++ t.left))))))
Standing (r_block number nibble) t = (number ≡ t.line.r) × ((nibble ≡ 0) × (t.left ≡ []))
Standing ifs_request t = ⊥
Standing (s_response pcb n) t = ⊥

-- The last block sent is the standing I-block, an R(r), or an answer to a request.
abbrev pub Last : Block → Talk → Type 0
Last (i_block number more inf) t = i_block number more inf ≡ t.standing
Last (r_block number nibble) t = (number ≡ t.line.r) × (nibble ≤ 2)
Last ifs_request t = ⊥
Last (s_response pcb n) t = Unit

pub record TalkKept (t : Talk) : Type 0 where
  pub line : LineKept t.line
  pub least : 4 ≤ length t.command
  pub most : length t.command ≤ 261
  pub standing : Standing t.standing t
  pub last : Last t.last t
  -- goes 1 to 3
  pub first : 1 ≤ t.go
  pub third : t.go ≤ 3
  -- at most 255 requests
  pub requests : t.requests ≤ 255
  -- the first block of the command at least
  pub begun : 1 ≤ t.sent
  -- Blocks sent: three goes for each that started at go 1, and the goes of the last. What is left goes out in
  -- (left + 15) / 16 blocks at most.
  pub sent : t.sent + 3 * ((length t.left + 15) / 16) ≤ 3 * (16 + length t.got + t.requests) + t.go

abbrev pub Kept : State → Type 0
Kept empty = Unit
Kept (greeting l n) = LineKept l × ((1 ≤ n) × (n ≤ 3))
Kept (ready l) = LineKept l
Kept (busy t) = TalkKept t
Kept (done l got) = LineKept l
Kept ended = Unit
