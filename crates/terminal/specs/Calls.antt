-- What each call gives for any slot in its state, any region of the pool and any bytes, and every byte that it leaves.
use Rattle.std.specs.Prelude.{ℕ, Bool, cond, List, eqb, length}
use Rattle.lent.specs.Place.{within}
use Rattle.block.specs.Reader.{read_of, inf_read}
use Rattle.block.specs.declared.event.Event.{Event}
use Rattle.pool.specs.Calls.{appends, appended, released, response}
use Rattle.slot.specs.declared.parts.Line.{Line}
use Rattle.slot.specs.declared.parts.Talk.{Talk}
use Rattle.slot.specs.declared.parts.Slot.TheVariants.{Empty, Ready, Done}
use Rattle.slot.specs.declared.parts.Next.{Next}
use Rattle.greeting.specs.Sending.{rests}
use Rattle.greeting.specs.Greeting.{while_greeting}
use Rattle.taking.specs.Calls.{asks_cell, taken}
use Rattle.turn.specs.Calls.{heard}

-- ---- an event while greeting

unfoldable pub greeted : Line → (sent kind : ℕ) → List ℕ → Next
greeted l sent k bs = while_greeting l sent (read_of k bs)

-- ---- an event while busy

-- an I-block that is due: with the cell that the pool gives, or without
unfoldable pub due_of : List ℕ → ℕ → Talk → Event → (inf : List ℕ) → Next
due_of r i t e inf = taken t e (appends r i inf) (length (response (appended r i inf) i))

unfoldable pub event_of : List ℕ → ℕ → Talk → (kind : ℕ) → List ℕ → Next
event_of r i t k bs = cond (asks_cell t (read_of k bs)) (due_of r i t (read_of k bs) (inf_read k bs)) (heard t (read_of k bs))

-- the region with an I-block that is due appended, if it gets a cell
unfoldable pub stored_in : List ℕ → ℕ → Talk → (kind : ℕ) → List ℕ → List ℕ
stored_in r i t k bs = cond (asks_cell t (read_of k bs)) (appended r i (inf_read k bs)) r

-- an ending frees the cells at once
unfoldable pub settled_pool : List ℕ → ℕ → (ending : ℕ) → List ℕ
settled_pool r i ending = cond (eqb ending 0) r (released r i)

unfoldable pub pool_of : List ℕ → ℕ → Talk → (kind : ℕ) → List ℕ → List ℕ
pool_of r i t k bs = settled_pool (stored_in r i t k bs) i (event_of r i t k bs).ending

-- ---- collect

-- the output holds the response
abbrev pub collects : List ℕ → ℕ → (out : List ℕ) → Bool
collects r i out = within out 0 (length (response r i))

unfoldable pub collected : List ℕ → ℕ → Line → (out : List ℕ) → Next
collected r i l out = rests (cond (collects r i out) (Ready l) (Done l)) 0

unfoldable pub collected_pool : List ℕ → ℕ → (out : List ℕ) → List ℕ
collected_pool r i out = cond (collects r i out) (released r i) r

-- ---- remove

abbrev pub removed : Next
removed = rests Empty 0
