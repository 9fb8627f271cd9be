-- "A session" of document 01: blocks sent, goes, the wait, endings, and invalid events.
use Rattle.std.specs.Prelude.{ℕ, ◌+◌, Bool, cond, List, [], ltb}
use Rattle.atr.specs.declared.report.Report.{Report}
use Rattle.atr.specs.Answer.{zeros}
use Rattle.session.specs.Slot.{Block, i_block, r_block, ifs_request, s_response, wire, Line, Talk, State, greeting, busy, ended, state_no}
use Rattle.session.specs.Call.{Answer, says}

-- ---- what is done, and the answer to it

pub record Did : Type 0 where
  pub state : State
  pub answer : Answer

-- a block goes out
abbrev pub sends : State → Block → (sent wait : ℕ) → Report → Did
sends x b sent wait rep = record { state = x; answer = says (state_no x) 0 sent wait rep (wire b) }

-- none does, and the wait is 0; collect writes the response
abbrev pub rests : State → (sent : ℕ) → (out : List ℕ) → Did
rests x sent out = record { state = x; answer = says (state_no x) 0 sent 0 zeros out }

-- the slot becomes ended, and its cells are free at once
abbrev pub ends : (ending sent : ℕ) → Did
ends ending sent = record { state = ended; answer = says (state_no ended) ending sent 0 zeros [] }

-- ---- goes

-- b is the last block sent, at that go
abbrev pub sent_at : Talk → Block → (go : ℕ) → Talk
sent_at t b go = record {
  line = t.line;
  command = t.command;
  left = t.left;
  standing = t.standing;
  last = b;
  go = go;
  requests = t.requests;
  got = t.got;
  sent = t.sent + 1;
}

-- the next go is not the fourth
abbrev pub go_left : (go : ℕ) → Bool
go_left go = ltb go 3

-- a newly sent block is go 1
abbrev pub newly : Talk → Block → (wait : ℕ) → Did
newly t b wait = sends (busy (sent_at t b 1)) b (t.sent + 1) wait zeros

-- each repeat, and each R in its place, is one go more; where go 4 would be due, end with 21
abbrev pub again : Talk → Block → Did
again t b =
    cond (go_left t.go)
    (sends (busy (sent_at t b (t.go + 1))) b (t.sent + 1) t.line.bwt zeros)
    (ends 21 t.sent)

-- while greeting: the IFS request is the only block sent, so that its go is the number of blocks sent
abbrev pub greet_again : Line → (sent : ℕ) → Did
greet_again l n =
    cond (go_left n)
    (sends (greeting l (n + 1)) ifs_request (n + 1) l.bwt zeros)
    (ends 21 n)

-- ---- invalid

-- if the last block sent was an R or S(IFS request), send it again as it was; otherwise send R(r) with the low nibble
abbrev pub in_place_of : (last : Block) → Talk → (nibble : ℕ) → Did
in_place_of (r_block number k) t nibble = again t (r_block number k)
in_place_of ifs_request t nibble = again t ifs_request
in_place_of (i_block number more inf) t nibble = again t (r_block t.line.r nibble)
in_place_of (s_response pcb n) t nibble = again t (r_block t.line.r nibble)

-- low nibble 1 for EDC, 2 for other and for a well-read block that no row takes
abbrev pub invalid : Talk → (nibble : ℕ) → Did
invalid t nibble = in_place_of t.last t nibble
