-- Whether a slot's numbers fit, as far as ranges and counts tell: the invariant of the crate `session`, as a test.
use Rattle.std.specs.Prelude.{ℕ, ◌+◌, ◌-◌, ◌*◌, ◌/◌, ◌≤◌, ◌≡◌, Bool, true, not, ◌&&◌, leb, eqb}
use Rattle.block.specs.Event.{between}
use Rattle.session.specs.Kept.{LineKept}
use Rattle.slot.specs.declared.parts.Line.{Line}
use Rattle.slot.specs.declared.parts.Cut.{Cut}
use Rattle.slot.specs.declared.parts.Last as last
use Rattle.slot.specs.declared.parts.Last.{Last}
use Rattle.slot.specs.declared.parts.Turn.{Turn}
use Rattle.slot.specs.declared.parts.Talk.{Talk}
use Rattle.slot.specs.declared.parts.Slot.{Slot}
use Rattle.slot.specs.declared.parts.Slot.TheVariants.{Empty, Greeting, Ready, Busy, Done, Ended}
use Rattle.slot.specs.Blocks.{is_more}
use Rattle.slot.specs.View.{line_of}

-- IFSC 16 to 254, BWT at most what an ATR can ask for, numbers 0 or 1
unfoldable pub line_fits : Line → Bool
line_fits l = between 16 l.ifsc 254 && (leb l.bwt 15371 && (leb l.s 1 && leb l.r 1))

-- the last I-block has 1 to 254 bytes, and lies within a command of 4 to 261
unfoldable pub cut_fits : Cut → Bool
cut_fits c = between 4 c.whole 261 && (leb c.from c.whole && (between 1 c.len 254 && leb c.len (c.whole - c.from)))

-- a low nibble is 0 to 2; an I-block is the last sent only while it stands
unfoldable pub last_fits : Last → (acked : Bool) → Bool
last_fits last.TheVariants.I acked = not acked
last_fits (last.TheVariants.R nibble) acked = leb nibble 2
last_fits (last.TheVariants.S pcb byte) acked = true

-- goes 1 to 3, at most 255 requests, 1 to 3 × (272 + 96) blocks sent
unfoldable pub turn_fits : Turn → Bool
turn_fits u = between 1 u.go 3 && (leb u.requests 255 && between 1 u.sent 1104)

-- each number of a talk lies in its range
unfoldable pub in_range : Talk → Bool
in_range t = line_fits t.line && (cut_fits t.cut && (last_fits t.turn.last t.acked && turn_fits t.turn))

-- At most 96 cells. Blocks sent: three goes for each that started at go 1, and the goes of the last; what is left goes out
-- in (left + 15) / 16 blocks at most.
unfoldable pub steps_fit : Talk → (held : ℕ) → Bool
steps_fit t held =
    leb held 96
    && leb (t.turn.sent + 3 * ((t.cut.whole - (t.cut.from + t.cut.len) + 15) / 16)) (3 * (16 + held + t.turn.requests) + t.turn.go)

-- and where an R stands, nothing of the command is left
unfoldable pub talk_fits : Talk → (held : ℕ) → Bool
talk_fits t held = in_range t && (not (t.acked && is_more t.cut) && steps_fit t held)

-- a slot that holds so many cells
unfoldable pub fits : Slot → (held : ℕ) → Bool
fits Empty held = eqb held 0
fits (Greeting l sent) held = eqb held 0 && (between 1 sent 3 && line_fits l)
fits (Ready l) held = eqb held 0 && line_fits l
fits (Busy t) held = talk_fits t held
fits (Done l) held = line_fits l
fits Ended held = eqb held 0

-- ---- the same as facts

pub record CutIn (c : Cut) : Type 0 where
  pub least : 4 ≤ c.whole
  pub most : c.whole ≤ 261
  pub some : 1 ≤ c.len
  pub few : c.len ≤ 254
  pub ends : c.from + c.len ≤ c.whole

pub record InRange (t : Talk) : Type 0 where
  pub line : LineKept (line_of t.line)
  pub cut : CutIn t.cut
  pub last : last_fits t.turn.last t.acked ≡ true
  pub first : 1 ≤ t.turn.go
  pub third : t.turn.go ≤ 3
  pub requests : t.turn.requests ≤ 255
  pub begun : 1 ≤ t.turn.sent
  pub sent : t.turn.sent ≤ 1104
