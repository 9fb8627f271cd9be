-- What a table shows: each slot as the paper has it.
use Rattle.std.specs.Prelude.{ℕ, List}
use Rattle.pool.specs.View.{shown}
use Rattle.session.specs.Slot.{State}
use Rattle.slot.specs.View.{state_of}
use Rattle.entry.specs.Entry.{slot_in}
use Rattle.table.specs.Layout.{pool_in, entry_in, command_in}

unfoldable pub slot_shown : List ℕ → ℕ → State
slot_shown t i = state_of (slot_in (entry_in t i)) (command_in t i) ((shown (pool_in t)).pieces i)
