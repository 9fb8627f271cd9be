-- An I-block on a slot of any numbers: whether a cell is asked for, and what is made of it. Numbers that are out of range are
-- left, and nothing is done.
use Rattle.std.specs.Prelude.{ℕ, Bool, false, cond, ◌&&◌}
use Rattle.block.specs.declared.event.Event.{Event}
use Rattle.block.specs.declared.event.Event.TheVariants.{I, R, IfsRequest, IfsResponse, Abort, Wtx, Edc, Other}
use Rattle.session.specs.History.{number_of}
use Rattle.slot.specs.declared.parts.Talk.{Talk}
use Rattle.slot.specs.declared.parts.Slot.TheVariants.{Busy}
use Rattle.slot.specs.declared.parts.Next.{Next}
use Rattle.slot.specs.Fit.{in_range}
use Rattle.greeting.specs.Sending.{rests, ends}
use Rattle.taking.specs.Rows.{due, accepted}

-- an I-block with more to come
abbrev pub more_in : Event → Bool
more_in (I number more) = more
more_in (R number) = false
more_in (IfsRequest n) = false
more_in (IfsResponse n) = false
more_in Abort = false
more_in (Wtx n) = false
more_in Edc = false
more_in Other = false

-- an I-block that is due: a cell is asked for
unfoldable pub asks_cell : Talk → Event → Bool
asks_cell t e = in_range t && due t (number_of e)

-- Such an I-block, stored or not; the response has `length` bytes with it. Without a cell it ends with 20.
abbrev pub taken_in : Talk → (more stored : Bool) (length : ℕ) → Next
taken_in t more stored length = cond stored (accepted t more length) (ends 20 t.turn.sent)

unfoldable pub taken : Talk → Event → (stored : Bool) (length : ℕ) → Next
taken t e stored length = cond (in_range t) (taken_in t (more_in e) stored length) (rests (Busy t) 0)
