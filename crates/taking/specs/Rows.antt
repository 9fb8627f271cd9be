-- An I-block while busy, on a slot's numbers. It follows the rows of the crate `session`, and proofs/ViewLaws shows that it
-- comes to the same.
use Rattle.std.specs.Prelude.{ℕ, ◌-◌, Bool, true, cond, not, ◌&&◌, ◌||◌, eqb}
use Rattle.slot.specs.declared.parts.Last as last
use Rattle.slot.specs.declared.parts.Talk.{Talk}
use Rattle.slot.specs.declared.parts.Slot.TheVariants.{Done}
use Rattle.slot.specs.declared.parts.Next.{Next}
use Rattle.slot.specs.Blocks.{is_more}
use Rattle.greeting.specs.Sending.{rests, ends, newly, send_r}

unfoldable pub due : Talk → (number : ℕ) → Bool
due t number = eqb number t.line.r && (t.acked || not (is_more t.cut))

-- r flipped
abbrev pub took : Talk → Talk
took t = record {
  line = record { ifsc = t.line.ifsc; bwt = t.line.bwt; s = t.line.s; r = 1 - t.line.r };
  cut = t.cut;
  acked = t.acked;
  turn = t.turn;
}

-- R(r) error-free, now standing
abbrev pub acknowledged : Talk → Talk
acknowledged t = record { line = t.line; cut = t.cut; acked = true; turn = t.turn }

abbrev pub acknowledge : Talk → Next
acknowledge t = newly (acknowledged t) (last.TheVariants.R 0) (send_r t.line.r 0) t.line.bwt

-- the response has `length` bytes
abbrev pub completed : Talk → (length : ℕ) → Next
completed t length = cond (eqb length 1) (ends 23 t.turn.sent) (rests (Done t.line) t.turn.sent)

unfoldable pub accepted : Talk → (more : Bool) (length : ℕ) → Next
accepted t more length = cond more (acknowledge (took t)) (completed (took t) length)
