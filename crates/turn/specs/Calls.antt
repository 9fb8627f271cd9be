-- What a command, and an event while busy that is no I-block due, make of a slot, whatever its numbers are. Numbers that are
-- out of range are left, and nothing is done.
use Rattle.std.specs.Prelude.{ℕ, false, cond, ◌&&◌, List, length}
use Rattle.block.specs.declared.event.Event.{Event}
use Rattle.session.specs.Refusal.{good_form}
use Rattle.slot.specs.declared.parts.Line.{Line}
use Rattle.slot.specs.declared.parts.Last as last
use Rattle.slot.specs.declared.parts.Talk.{Talk}
use Rattle.slot.specs.declared.parts.Slot.TheVariants.{Ready, Busy}
use Rattle.slot.specs.declared.parts.Next.{Next}
use Rattle.slot.specs.Fit.{line_fits, in_range}
use Rattle.greeting.specs.Sending.{rests}
use Rattle.turn.specs.Sending.{send_next}
use Rattle.turn.specs.Rows.{while_busy}

-- ---- command

-- a command of n bytes, none of which has gone out
abbrev pub unsent : Line → (n : ℕ) → Talk
unsent l n =
    record {
      line = l;
      cut = record { whole = n; from = 0; len = 0 };
      acked = false;
      turn = record { last = last.TheVariants.I; go = 0; requests = 0; sent = 0 };
    }

abbrev pub started : Line → (n : ℕ) → Next
started l n = send_next (unsent l n)

unfoldable pub commanded : Line → List ℕ → Next
commanded l bs = cond (line_fits l && good_form bs) (started l (length bs)) (rests (Ready l) 0)

-- ---- an event while busy

unfoldable pub heard : Talk → Event → Next
heard t e = cond (in_range t) (while_busy t e) (rests (Busy t) 0)
