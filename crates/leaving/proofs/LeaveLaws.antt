-- What collect and remove leave of a table that is long enough. Assumes nothing.
use Prim.Native.Nat.{ℕ, ◌≤◌}
use mathlib.Core.Path.{◌≡◌, sym}
use mathlib.Core.List.{List}
use lib.ListN.{length}
use borrow.Author.Tests.{le-leb}
use Rattle.atr.specs.Answer.{zeros}
use Rattle.pool.specs.Calls.{released, response, copied}
use Rattle.terminal.specs.Calls.{collected_pool, removed}
use Rattle.table.specs.Layout.{table_size, pool_in, with_pool, with_slot}
use Rattle.answer.specs.Record.{told_of}
use Rattle.leaving.specs.Leave.{collected_in, collect_table, collect_out, collect_record, remove_table, remove_record}

module _ (t out rec : List ℕ) (i : ℕ) where
  abbrev pub Collected : (u o r : List ℕ) → Type 0
  Collected u o r = (u ≡ collect_table t i out) × (o ≡ collect_out t i out) × (r ≡ collect_record t i out rec)

  pub collected_long : table_size ≤ length t
      → Collected (with_slot (with_pool t (collected_pool (pool_in t) i out)) i (collected_in t i out).slot) (copied (pool_in t) i out) (told_of rec (collected_in t i out) (length (response (pool_in t) i)) zeros)
  unfolding collect_table collect_out collect_record
  collected_long h =
      let e = le-leb table_size (length t) h in
      (sym (rw e), sym (rw e), sym (rw e))

module _ (t rec : List ℕ) (i : ℕ) where
  abbrev pub Removed : (u r : List ℕ) → Type 0
  Removed u r = (u ≡ remove_table t i) × (r ≡ remove_record t rec)

  pub removed_long : table_size ≤ length t → Removed (with_slot (with_pool t (released (pool_in t) i)) i removed.slot) (told_of rec removed 0 zeros)
  unfolding remove_table remove_record
  removed_long h =
      let e = le-leb table_size (length t) h in
      (sym (rw e), sym (rw e))
