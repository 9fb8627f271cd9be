-- "A session" of document 01: greeting, command, and what is received while busy, row by row.
use Rattle.std.specs.Prelude.{ℕ, ◌+◌, ◌*◌, ◌-◌, Bool, true, false, cond, not, ◌&&◌, List, [], ◌∷◌, ◌++◌, ltb, eqb, length, take, drop}
use Rattle.block.specs.declared.event.Event.{Event}
use Rattle.block.specs.declared.event.Event.TheVariants.{I, R, IfsRequest, IfsResponse, Abort, Wtx, Edc, Other}
use Rattle.pool.specs.Contents.{join}
use Rattle.shares.specs.Decide.{Row, plain, ask}
use Rattle.session.specs.Slot.{Block, i_block, r_block, ifs_request, s_response, Line, Talk, State, ready, done}
use Rattle.session.specs.Call.{Answer}
use Rattle.session.specs.Sending.{Did, rests, ends, newly, again, greet_again, invalid}

-- ---- greeting

-- E1 with FE makes the slot ready; C2 ends with 22; all else is invalid
abbrev pub while_greeting : Line → (sent : ℕ) → Event → Did
while_greeting l n (IfsResponse v) = cond (eqb v 0xFE) (rests (ready l) n []) (greet_again l n)
while_greeting l n Abort = ends 22 n
while_greeting l n (I number more) = greet_again l n
while_greeting l n (R number) = greet_again l n
while_greeting l n (IfsRequest v) = greet_again l n
while_greeting l n (Wtx v) = greet_again l n
while_greeting l n Edc = greet_again l n
while_greeting l n Other = greet_again l n

-- ---- command; its form is `good_form` of Refusal, and makes it 4 to 261 bytes (proofs/FormLaws)

-- it goes out in I-blocks of min(IFSC, what is left), with b6 set while more is left; each new one is numbered 1 - s
abbrev pub next_block : Talk → Block
next_block t = i_block (1 - t.line.s) (ltb t.line.ifsc (length t.left)) (take t.line.ifsc t.left)

-- its bytes leave what is left, it is the standing block, and s is its number
abbrev pub cut : Talk → Talk
cut t = record {
  line = record { ifsc = t.line.ifsc; bwt = t.line.bwt; s = 1 - t.line.s; r = t.line.r };
  command = t.command;
  left = drop t.line.ifsc t.left;
  standing = next_block t;
  last = t.last;
  go = t.go;
  requests = t.requests;
  got = t.got;
  sent = t.sent;
}

abbrev pub send_next : Talk → Did
send_next t = newly (cut t) (next_block t) t.line.bwt

-- nothing of the command has gone out; its first block becomes standing and last, and what is written here is not looked at
abbrev pub unsent : Line → List ℕ → Talk
unsent l bs =
    record { line = l; command = bs; left = bs; standing = ifs_request; last = ifs_request; go = 0; requests = 0; got = []; sent = 0 }

abbrev pub commanded : Line → List ℕ → Did
commanded l bs = send_next (unsent l bs)

-- ---- an I-block while busy

-- standing is an I without more, or an R
abbrev pub awaits : (standing : Block) → Bool
awaits (i_block number more inf) = not more
awaits (r_block number nibble) = true
awaits ifs_request = false
awaits (s_response pcb n) = false

-- it is due if it is numbered r besides
abbrev pub due : Talk → (number : ℕ) → Bool
due t number = eqb number t.line.r && awaits t.standing

-- append INF, flip r
abbrev pub took : Talk → (inf : List ℕ) → Talk
took t inf = record {
  line = record { ifsc = t.line.ifsc; bwt = t.line.bwt; s = t.line.s; r = 1 - t.line.r };
  command = t.command;
  left = t.left;
  standing = t.standing;
  last = t.last;
  go = t.go;
  requests = t.requests;
  got = t.got ++ (inf ∷ []);
  sent = t.sent;
}

abbrev pub stands : Talk → Block → Talk
stands t b = record {
  line = t.line;
  command = t.command;
  left = t.left;
  standing = b;
  last = t.last;
  go = t.go;
  requests = t.requests;
  got = t.got;
  sent = t.sent;
}

-- more: send R(r) error-free, now standing
abbrev pub acknowledge : Talk → Did
acknowledge t = newly (stands t (r_block t.line.r 0)) (r_block t.line.r 0) t.line.bwt

-- the response is 1 byte
abbrev pub is_one_byte : Talk → Bool
is_one_byte t = eqb (length (join t.got)) 1

-- no more: done, or end 23 if the response is 1 byte
abbrev pub complete : Talk → Did
complete t = cond (is_one_byte t) (ends 23 t.sent) (rests (done t.line t.got) t.sent [])

abbrev pub accepted : Talk → (more : Bool) → Did
accepted t more = cond more (acknowledge t) (complete t)

-- what is done whether or not there are cells
abbrev pub now : Did → Row State Answer
now d = plain d.state d.answer

-- what is done with a cell, and what without
abbrev pub with_cell : Did → Did → Row State Answer
with_cell d e = ask d.state d.answer e.state e.answer

-- take a cell (else end 20)
abbrev pub on_i : Talk → (number : ℕ) (more : Bool) (inf : List ℕ) → Row State Answer
on_i t number more inf = cond (due t number) (with_cell (accepted (took t inf) more) (ends 20 t.sent)) (now (invalid t 2))

-- ---- an R-block while busy: the number alone decides

-- standing is an I: number s, the standing block again; number not s, with more, the next I-block.
-- standing is an R: number 1 - s, the standing block again.
abbrev pub on_r : (standing : Block) → Talk → (number : ℕ) → Did
on_r (i_block n more inf) t number = cond (eqb number t.line.s) (again t t.standing) (cond more (send_next t) (invalid t 2))
on_r (r_block n nibble) t number = cond (eqb number (1 - t.line.s)) (again t t.standing) (invalid t 2)
on_r ifs_request t number = invalid t 2
on_r (s_response pcb n) t number = invalid t 2

-- ---- a request while busy

-- C1 and C3 are counted from the command
abbrev pub counted : Talk → (ifsc : ℕ) → Talk
counted t n = record {
  line = record { ifsc = n; bwt = t.line.bwt; s = t.line.s; r = t.line.r };
  command = t.command;
  left = t.left;
  standing = t.standing;
  last = t.last;
  go = t.go;
  requests = t.requests + 1;
  got = t.got;
  sent = t.sent;
}

-- the next request is not the 256th
abbrev pub request_left : (requests : ℕ) → Bool
request_left requests = ltb requests 255

-- the 256th ends with 24
abbrev pub on_request : Talk → (ifsc : ℕ) → Block → (wait : ℕ) → Did
on_request t ifsc b wait = cond (request_left t.requests) (newly (counted t ifsc) b wait) (ends 24 t.sent)

-- ---- received while busy, row by row

abbrev pub while_busy : Talk → Event → (inf : List ℕ) → Row State Answer
while_busy t (I number more) inf = on_i t number more inf
while_busy t (R number) inf = now (on_r t.standing t number)
-- C1 with n: IFSC = n, send E1 with n
while_busy t (IfsRequest n) inf = now (on_request t n (s_response 0xE1 n) t.line.bwt)
-- C3 with n: send E3 with n; the wait reported is n × BWT, else 1 × BWT
while_busy t (Wtx n) inf = now (on_request t t.line.ifsc (s_response 0xE3 n) (n * t.line.bwt))
-- C2: end 22
while_busy t Abort inf = now (ends 22 t.sent)
-- anything else, or an invalid event
while_busy t (IfsResponse n) inf = now (invalid t 2)
while_busy t Edc inf = now (invalid t 1)
while_busy t Other inf = now (invalid t 2)
