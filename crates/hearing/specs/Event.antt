-- What an event leaves on a slot that is greeting or busy. A table of fewer than 32,768 bytes, with it the output and the
-- record, is left as it was.
use Rattle.std.specs.Prelude.{ℕ, cond, List, leb, length}
use Rattle.slot.specs.declared.parts.Next.{Next}
use Rattle.slot.specs.Blocks.{sent_out}
use Rattle.session.specs.Call.{Input, event}
use Rattle.table.specs.Layout.{table_size, command_in, with_pool, with_slot}
use Rattle.call.specs.Call.{lends, next_of, pool_after}
use Rattle.hearing.specs.Parts.{told_by}

-- the call; what is lent does not matter
abbrev pub happening : (kind : ℕ) → List ℕ → Input
happening k bs = event (lends 0 0 0) k bs

-- what it gives, and the table with the pool's region after it
abbrev pub event_in : List ℕ → ℕ → (kind : ℕ) → List ℕ → Next
event_in t i k bs = next_of t i (happening k bs)

abbrev pub event_pool : List ℕ → ℕ → (kind : ℕ) → List ℕ → List ℕ
event_pool t i k bs = with_pool t (pool_after t i (happening k bs))

-- the table, the output and the record
unfoldable pub event_table : List ℕ → ℕ → (kind : ℕ) → List ℕ → List ℕ
event_table t i k bs = cond (leb table_size (length t)) (with_slot (event_pool t i k bs) i (event_in t i k bs).slot) t

unfoldable pub event_out : List ℕ → ℕ → (kind : ℕ) → List ℕ → (out : List ℕ) → List ℕ
event_out t i k bs out =
    cond (leb table_size (length t)) (sent_out out (event_in t i k bs).send (command_in (event_pool t i k bs) i)) out

unfoldable pub event_record : List ℕ → ℕ → (kind : ℕ) → List ℕ → (out rec : List ℕ) → List ℕ
event_record t i k bs out rec =
    cond (leb table_size (length t)) (told_by rec out (event_in t i k bs) (command_in (event_pool t i k bs) i)) rec
