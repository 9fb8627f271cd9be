-- On a slot's numbers: goes, the command's I-blocks, and what is sent for an invalid event.
use Rattle.std.specs.Prelude.{ℕ, ◌+◌, ◌-◌, min, false, cond}
use Rattle.block.specs.Block.{i_pcb}
use Rattle.session.specs.Sending.{go_left}
use Rattle.slot.specs.declared.parts.Cut.{Cut}
use Rattle.slot.specs.declared.parts.Last as last
use Rattle.slot.specs.declared.parts.Last.{Last}
use Rattle.slot.specs.declared.parts.Talk.{Talk}
use Rattle.slot.specs.declared.parts.Send as send
use Rattle.slot.specs.declared.parts.Send.{Send}
use Rattle.slot.specs.declared.parts.Next.{Next}
use Rattle.slot.specs.Blocks.{is_more}
use Rattle.greeting.specs.Sending.{ends, goes_out, sent_at, newly, send_r}

-- ---- goes

abbrev pub again : Talk → Last → Send → Next
again t l b = cond (go_left t.turn.go) (goes_out (sent_at t l (t.turn.go + 1)) b t.line.bwt) (ends 21 t.turn.sent)

-- ---- invalid

-- R(r) with this low nibble
abbrev pub in_place : Talk → (nibble : ℕ) → Next
in_place t nibble = again t (last.TheVariants.R nibble) (send_r t.line.r nibble)

abbrev pub invalid_by : Last → Talk → (nibble : ℕ) → Next
invalid_by last.TheVariants.I t nibble = in_place t nibble
invalid_by (last.TheVariants.R old) t nibble = in_place t old
invalid_by (last.TheVariants.S pcb byte) t nibble = in_place t nibble

unfoldable pub invalid : Talk → (nibble : ℕ) → Next
invalid t nibble = invalid_by t.turn.last t nibble

-- ---- the command's I-blocks

-- the last, as it was cut
abbrev pub last_i : Talk → Send
last_i t = send.TheVariants.I (i_pcb t.line.s (is_more t.cut)) t.cut.from t.cut.len

-- the next: min(IFSC, what is left)
abbrev pub next_cut : (ifsc : ℕ) → Cut → Cut
next_cut ifsc c =
    record { whole = c.whole; from = c.from + c.len; len = min ifsc (c.whole - (c.from + c.len)) }

abbrev pub cut_next : Talk → Talk
cut_next t = record {
  line = record { ifsc = t.line.ifsc; bwt = t.line.bwt; s = 1 - t.line.s; r = t.line.r };
  cut = next_cut t.line.ifsc t.cut;
  acked = false;
  turn = t.turn;
}

unfoldable pub send_next : Talk → Next
send_next t = newly (cut_next t) last.TheVariants.I (last_i (cut_next t)) t.line.bwt

-- the standing block again
unfoldable pub say_again : Talk → Next
say_again t = cond t.acked (in_place t 0) (again t last.TheVariants.I (last_i t))
