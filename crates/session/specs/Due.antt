-- The I-block that is the next one due: the first row of the paper's table.
use Rattle.std.specs.Prelude.{Bool, false}
use Rattle.block.specs.Reader.{read_of}
use Rattle.block.specs.declared.event.Event.{Event}
use Rattle.block.specs.declared.event.Event.TheVariants.{I, R, IfsRequest, IfsResponse, Abort, Wtx, Edc, Other}
use Rattle.session.specs.Slot.{Talk, State, empty, greeting, ready, busy, done, ended}
use Rattle.session.specs.Call.{Input, attach, command, event, collect, remove}
use Rattle.session.specs.Session.{due}

-- the event is an I-block that is due
abbrev pub due_event : Talk → Event → Bool
due_event t (I number more) = due t number
due_event t (R number) = false
due_event t (IfsRequest n) = false
due_event t (IfsResponse n) = false
due_event t Abort = false
due_event t (Wtx n) = false
due_event t Edc = false
due_event t Other = false

-- while the slot is busy
abbrev pub due_on : State → Event → Bool
due_on (busy t) e = due_event t e
due_on empty e = false
due_on (greeting l n) e = false
due_on (ready l) e = false
due_on (done l got) e = false
due_on ended e = false

-- and the call brings it
abbrev pub due_in : State → Input → Bool
due_in s (event l k bs) = due_on s (read_of k bs)
due_in s (attach l atr) = false
due_in s (command l bs) = false
due_in s (collect l) = false
due_in s (remove l) = false
