-- On a slot's numbers: what a call gives, and a block that is sent.
use Rattle.std.specs.Prelude.{ℕ, ◌+◌}
use Rattle.block.specs.Block.{r_pcb}
use Rattle.slot.specs.declared.parts.Last.{Last}
use Rattle.slot.specs.declared.parts.Talk.{Talk}
use Rattle.slot.specs.declared.parts.Slot.{Slot}
use Rattle.slot.specs.declared.parts.Slot.TheVariants.{Busy, Ended}
use Rattle.slot.specs.declared.parts.Send as send
use Rattle.slot.specs.declared.parts.Send.{Send}
use Rattle.slot.specs.declared.parts.Send.TheVariants.{Nothing}
use Rattle.slot.specs.declared.parts.Next.{Next}

-- ---- what a call gives

-- nothing goes out
abbrev pub rests : Slot → (sent : ℕ) → Next
rests x sent = record { slot = x; send = Nothing; sent = sent; wait = 0; ending = 0 }

-- the session ends
abbrev pub ends : (ending sent : ℕ) → Next
ends ending sent = record { slot = Ended; send = Nothing; sent = sent; wait = 0; ending = ending }

-- a block goes out
abbrev pub goes_out : Talk → Send → (wait : ℕ) → Next
goes_out t b wait = record { slot = Busy t; send = b; sent = t.turn.sent; wait = wait; ending = 0 }

-- ---- a block sent

-- one block more was sent: it is the last, at that go
abbrev pub sent_at : Talk → Last → (go : ℕ) → Talk
sent_at t l go =
    record { line = t.line; cut = t.cut; acked = t.acked; turn = record { last = l; go = go; requests = t.turn.requests; sent = t.turn.sent + 1 } }

-- a new block, at go 1
abbrev pub newly : Talk → Last → Send → (wait : ℕ) → Next
newly t l b wait = goes_out (sent_at t l 1) b wait

-- an R-block
abbrev pub send_r : (number nibble : ℕ) → Send
send_r number nibble = send.TheVariants.R (r_pcb number nibble)
