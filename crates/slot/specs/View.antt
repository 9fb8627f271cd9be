-- What a slot's numbers show, with the bytes of its command and the pieces that it holds: the slot of the crate `session`.
use Rattle.std.specs.Prelude.{ℕ, ◌+◌, ◌≡◌, cond, List, length, drop}
use Rattle.lent.specs.Place.{window}
use Rattle.atr.specs.declared.report.Report.{Report}
use Rattle.session.specs.Slot as paper
use Rattle.session.specs.Slot.{Block, i_block, r_block, s_response, State, empty, greeting, ready, busy, done, ended}
use Rattle.session.specs.Call.{Answer, says}
use Rattle.slot.specs.declared.parts.Line.{Line}
use Rattle.slot.specs.declared.parts.Last as last
use Rattle.slot.specs.declared.parts.Last.{Last}
use Rattle.slot.specs.declared.parts.Talk.{Talk}
use Rattle.slot.specs.declared.parts.Slot.{Slot}
use Rattle.slot.specs.declared.parts.Slot.TheVariants.{Empty, Greeting, Ready, Busy, Done, Ended}
use Rattle.slot.specs.declared.parts.Next.{Next}
use Rattle.slot.specs.Blocks.{is_more, bytes_of}

-- ---- the slot

abbrev pub line_of : Line → paper.Line
line_of l = record { ifsc = l.ifsc; bwt = l.bwt; s = l.s; r = l.r }

-- the last I-block sent
abbrev pub i_of : Talk → (command : List ℕ) → Block
i_of t command = i_block t.line.s (is_more t.cut) (window command t.cut.from t.cut.len)

abbrev pub standing_of : Talk → (command : List ℕ) → Block
standing_of t command = cond t.acked (r_block t.line.r 0) (i_of t command)

abbrev pub last_of : Last → Talk → (command : List ℕ) → Block
last_of last.TheVariants.I t command = i_of t command
last_of (last.TheVariants.R nibble) t command = r_block t.line.r nibble
last_of (last.TheVariants.S pcb byte) t command = s_response pcb byte

abbrev pub talk_of : Talk → (command : List ℕ) → (got : List (List ℕ)) → paper.Talk
talk_of t command got = record {
  line = line_of t.line;
  command = command;
  left = drop (t.cut.from + t.cut.len) command;
  standing = standing_of t command;
  last = last_of t.turn.last t command;
  go = t.turn.go;
  requests = t.turn.requests;
  got = got;
  sent = t.turn.sent;
}

unfoldable pub state_of : Slot → (command : List ℕ) → (got : List (List ℕ)) → State
state_of Empty command got = empty
state_of (Greeting l sent) command got = greeting (line_of l) sent
state_of (Ready l) command got = ready (line_of l)
state_of (Busy t) command got = busy (talk_of t command got)
state_of (Done l) command got = done (line_of l) got
state_of Ended command got = ended

-- 0 to 5 in answers
abbrev pub slot_no : Slot → ℕ
slot_no Empty = 0
slot_no (Greeting l sent) = 1
slot_no (Ready l) = 2
slot_no (Busy t) = 3
slot_no (Done l) = 4
slot_no Ended = 5

-- the bytes that are kept are the whole command of a busy slot
abbrev pub KeptFor : Slot → (command : List ℕ) → Type 0
KeptFor (Busy t) command = length command ≡ t.cut.whole
KeptFor Empty command = Unit
KeptFor (Greeting l sent) command = Unit
KeptFor (Ready l) command = Unit
KeptFor (Done l) command = Unit
KeptFor Ended command = Unit

-- ---- what a call gives

-- the answer, as the paper has it, with these bytes written to the output
abbrev pub said_with : Next → Report → (out : List ℕ) → Answer
said_with n report out = says (slot_no n.slot) n.ending n.sent n.wait report out

-- of a call that sends: the bytes of the block
abbrev pub said_by : Next → (command : List ℕ) → Report → Answer
said_by n command report = said_with n report (bytes_of n.send command)
