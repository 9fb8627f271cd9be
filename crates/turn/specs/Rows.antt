-- What is received while busy, row by row, on a slot's numbers. They follow the rows of the crate
-- `session`, and proofs/ViewLaws shows that they come to the same.
use Rattle.std.specs.Prelude.{ℕ, ◌+◌, ◌-◌, ◌*◌, cond, eqb}
use Rattle.block.specs.declared.event.Event.{Event}
use Rattle.block.specs.declared.event.Event.TheVariants.{I, R, IfsRequest, IfsResponse, Abort, Wtx, Edc, Other}
use Rattle.session.specs.Session.{request_left}
use Rattle.slot.specs.declared.parts.Last as last
use Rattle.slot.specs.declared.parts.Talk.{Talk}
use Rattle.slot.specs.declared.parts.Send as send
use Rattle.slot.specs.declared.parts.Next.{Next}
use Rattle.slot.specs.Blocks.{is_more}
use Rattle.greeting.specs.Sending.{ends, newly}
use Rattle.turn.specs.Sending.{invalid, send_next, say_again}

-- ---- an R-block while busy

unfoldable pub on_r : Talk → (number : ℕ) → Next
on_r t number =
    cond t.acked
    (cond (eqb number (1 - t.line.s)) (say_again t) (invalid t 2))
    (cond (eqb number t.line.s) (say_again t) (cond (is_more t.cut) (send_next t) (invalid t 2)))

-- ---- a request while busy

abbrev pub counted : Talk → (ifsc : ℕ) → Talk
counted t ifsc = record {
  line = record { ifsc = ifsc; bwt = t.line.bwt; s = t.line.s; r = t.line.r };
  cut = t.cut;
  acked = t.acked;
  turn = record { last = t.turn.last; go = t.turn.go; requests = t.turn.requests + 1; sent = t.turn.sent };
}

unfoldable pub on_request : Talk → (ifsc pcb byte wait : ℕ) → Next
on_request t ifsc pcb byte wait =
    cond (request_left t.turn.requests) (newly (counted t ifsc) (last.TheVariants.S pcb byte) (send.TheVariants.S pcb byte) wait)
    (ends 24 t.turn.sent)

-- ---- while busy; an I-block that comes here is not due

unfoldable pub while_busy : Talk → Event → Next
while_busy t (I number more) = invalid t 2
while_busy t (R number) = on_r t number
while_busy t (IfsRequest n) = on_request t n 0xE1 n t.line.bwt
while_busy t (Wtx n) = on_request t t.line.ifsc 0xE3 n (n * t.line.bwt)
while_busy t Abort = ends 22 t.turn.sent
while_busy t (IfsResponse n) = invalid t 2
while_busy t Edc = invalid t 1
while_busy t Other = invalid t 2
