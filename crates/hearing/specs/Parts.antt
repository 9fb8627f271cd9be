-- The parts of an event.
use Rattle.std.specs.Prelude.{ℕ, List}
use Rattle.atr.specs.Answer.{zeros}
use Rattle.slot.specs.declared.parts.Next.{Next}
use Rattle.slot.specs.Blocks.{sent_length}
use Rattle.terminal.specs.Calls.{greeted, event_of, pool_of}
use Rattle.answer.specs.Record.{told_of}
use Rattle.entry.specs.Entry.{sent_in, line_in, talk_in}
use Rattle.table.specs.Layout.{pool_in, entry_in, with_pool}

-- the record of a call that sends, the block being cut from this command
abbrev pub told_by : (rec out : List ℕ) → Next → (command : List ℕ) → List ℕ
told_by rec out n command = told_of rec n (sent_length out n.send command) zeros

-- while greeting
abbrev pub greeted_in : List ℕ → ℕ → (kind : ℕ) → List ℕ → Next
greeted_in t i k bs = greeted (line_in (entry_in t i)) (sent_in (entry_in t i)) k bs

-- while busy: what it gives, and the table with the pool's region after it
abbrev pub heard_in : List ℕ → ℕ → (kind : ℕ) → List ℕ → Next
heard_in t i k bs = event_of (pool_in t) i (talk_in (entry_in t i)) k bs

abbrev pub heard_pool : List ℕ → ℕ → (kind : ℕ) → List ℕ → List ℕ
heard_pool t i k bs = with_pool t (pool_of (pool_in t) i (talk_in (entry_in t i)) k bs)
