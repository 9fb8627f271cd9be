-- T=1 as a protocol over the pool: the five calls on a slot, each with its refusals.
use Rattle.std.specs.Prelude.{ℕ, cond, List, [], eqb, Ok, Err}
use Rattle.block.specs.Reader.{read_of, inf_read}
use Rattle.block.specs.declared.event.Event.{Event}
use Rattle.atr.specs.declared.report.Report.{Report}
use Rattle.atr.specs.Answer.{Answer as AtrAnswer, refusal_number, answer_of}
use Rattle.pool.specs.Contents.{join}
use Rattle.shares.specs.Rack.{Protocol}
use Rattle.shares.specs.Decide.{Row, plain, decided}
use Rattle.session.specs.Slot.{ifs_request, Line, State, empty, greeting, ready, busy, done, ended, held_in}
use Rattle.session.specs.Call.{Input, attach, command, event, collect, remove, Answer, refuses}
use Rattle.session.specs.Refusal.{refusal, no_slot}
use Rattle.session.specs.Sending.{Did, sends, rests}
use Rattle.session.specs.Session.{while_greeting, commanded, now, while_busy}

-- ---- attach sends S(IFS request) with FE; the slot is greeting, r is 0

-- no I-block was sent: the first is to be 0, which is 1 - s
abbrev pub new_line : Report → Line
new_line rep = record { ifsc = rep.ifsc; bwt = rep.bwt; s = 1; r = 0 }

abbrev pub attached : Report → Did
attached rep = sends (greeting (new_line rep) 1) ifs_request 1 rep.bwt rep

-- ---- each call, where no refusal applies. The state is the right one then: in another nothing would be done.

-- nothing is done; the call is refused with 4
abbrev pub stays : State → Row State Answer
stays x = plain x (refuses 4)

abbrev pub on_attach : State → AtrAnswer → Row State Answer
on_attach x (Ok rep) = now (attached rep)
on_attach x (Err e) = plain x (refuses (refusal_number e))

abbrev pub on_command : State → List ℕ → Row State Answer
on_command (ready l) bs = now (commanded l bs)
on_command empty bs = stays empty
on_command (greeting l n) bs = stays (greeting l n)
on_command (busy t) bs = stays (busy t)
on_command (done l got) bs = stays (done l got)
on_command ended bs = stays ended

abbrev pub on_event : State → Event → (inf : List ℕ) → Row State Answer
on_event (greeting l n) e inf = now (while_greeting l n e)
on_event (busy t) e inf = while_busy t e inf
on_event empty e inf = stays empty
on_event (ready l) e inf = stays (ready l)
on_event (done l got) e inf = stays (done l got)
on_event ended e inf = stays ended

-- collect copies the response, frees the cells, and the slot is ready
abbrev pub collected : Line → (got : List (List ℕ)) → Did
collected l got = rests (ready l) 0 (join got)

abbrev pub on_collect : State → Row State Answer
on_collect (done l got) = now (collected l got)
on_collect empty = stays empty
on_collect (greeting l n) = stays (greeting l n)
on_collect (ready l) = stays (ready l)
on_collect (busy t) = stays (busy t)
on_collect ended = stays ended

-- remove frees the cells too, and the slot is empty
abbrev pub removed : Did
removed = rests empty 0 []

abbrev pub does : State → Input → Row State Answer
does x (attach l atr) = on_attach x (answer_of atr)
does x (command l bs) = on_command x bs
does x (event l k bs) = on_event x (read_of k bs) (inf_read k bs)
does x (collect l) = on_collect x
does x (remove l) = now removed

-- ---- the protocol

unfoldable pub row : State → Input → Row State Answer
row x c = cond (eqb (refusal x c) 0) (does x c) (plain x (refuses (refusal x c)))

abbrev pub t1 : Protocol
t1 = decided State Input Answer held_in row (λ c. refuses (no_slot c))
