-- What collect and remove leave. A table of fewer than 32,768 bytes, with it the output and the record, is left as it was.
use Rattle.std.specs.Prelude.{ℕ, cond, List, leb, length}
use Rattle.atr.specs.Answer.{zeros}
use Rattle.pool.specs.Calls.{released, response, copied}
use Rattle.slot.specs.declared.parts.Next.{Next}
use Rattle.terminal.specs.Calls.{collected, collected_pool, removed}
use Rattle.entry.specs.Entry.{line_in}
use Rattle.table.specs.Layout.{table_size, pool_in, entry_in, with_pool, with_slot}
use Rattle.answer.specs.Record.{told_of}

-- ---- collect: what it gives, the table, the output, the record

abbrev pub collected_in : List ℕ → ℕ → (out : List ℕ) → Next
collected_in t i out = collected (pool_in t) i (line_in (entry_in t i)) out

unfoldable pub collect_table : List ℕ → ℕ → (out : List ℕ) → List ℕ
collect_table t i out =
    cond (leb table_size (length t)) (with_slot (with_pool t (collected_pool (pool_in t) i out)) i (collected_in t i out).slot) t

unfoldable pub collect_out : List ℕ → ℕ → (out : List ℕ) → List ℕ
collect_out t i out = cond (leb table_size (length t)) (copied (pool_in t) i out) out

unfoldable pub collect_record : List ℕ → ℕ → (out rec : List ℕ) → List ℕ
collect_record t i out rec =
    cond (leb table_size (length t)) (told_of rec (collected_in t i out) (length (response (pool_in t) i)) zeros) rec

-- ---- remove: the table, the record

unfoldable pub remove_table : List ℕ → ℕ → List ℕ
remove_table t i = cond (leb table_size (length t)) (with_slot (with_pool t (released (pool_in t) i)) i removed.slot) t

unfoldable pub remove_record : List ℕ → (rec : List ℕ) → List ℕ
remove_record t rec = cond (leb table_size (length t)) (told_of rec removed 0 zeros) rec
