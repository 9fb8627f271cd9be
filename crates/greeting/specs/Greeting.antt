-- Attach, and what is received while greeting, on a slot's numbers. It follows the crate `session`, and proofs/ViewLaws shows
-- that it comes to the same.
use Rattle.std.specs.Prelude.{ℕ, ◌+◌, Bool, true, false, cond, eqb}
use Rattle.block.specs.declared.event.Event.{Event}
use Rattle.block.specs.declared.event.Event.TheVariants.{I, R, IfsRequest, IfsResponse, Abort, Wtx, Edc, Other}
use Rattle.atr.specs.declared.report.Report.{Report}
use Rattle.session.specs.Sending.{go_left}
use Rattle.slot.specs.declared.parts.Line.{Line}
use Rattle.slot.specs.declared.parts.Slot.TheVariants.{Greeting, Ready}
use Rattle.slot.specs.declared.parts.Send as send
use Rattle.slot.specs.declared.parts.Send.{Send}
use Rattle.slot.specs.declared.parts.Next.{Next}
use Rattle.greeting.specs.Sending.{rests, ends}

-- S(IFS request) with FE
abbrev pub ifs_request : Send
ifs_request = send.TheVariants.S 0xC1 0xFE

abbrev pub greets : Line → (sent : ℕ) → Next
greets l sent = record { slot = Greeting l sent; send = ifs_request; sent = sent; wait = l.bwt; ending = 0 }

abbrev pub greet_again : Line → (sent : ℕ) → Next
greet_again l sent = cond (go_left sent) (greets l (sent + 1)) (ends 21 sent)

-- ---- attach

abbrev pub attached : Report → Next
attached rep = greets (record { ifsc = rep.ifsc; bwt = rep.bwt; s = 1; r = 0 }) 1

-- ---- while greeting

-- E1 with FE
abbrev pub is_greeted : Event → Bool
is_greeted (IfsResponse v) = eqb v 0xFE
is_greeted (I number more) = false
is_greeted (R number) = false
is_greeted (IfsRequest v) = false
is_greeted Abort = false
is_greeted (Wtx v) = false
is_greeted Edc = false
is_greeted Other = false

-- C2
abbrev pub is_abort : Event → Bool
is_abort Abort = true
is_abort (I number more) = false
is_abort (R number) = false
is_abort (IfsRequest v) = false
is_abort (IfsResponse v) = false
is_abort (Wtx v) = false
is_abort Edc = false
is_abort Other = false

-- E1 with FE makes the slot ready, C2 ends with 22, all else is invalid
unfoldable pub while_greeting : Line → (sent : ℕ) → Event → Next
while_greeting l n e = cond (is_greeted e) (rests (Ready l) n) (cond (is_abort e) (ends 22 n) (greet_again l n))
