-- The parts of an event, put together. Assumes nothing.
use Prim.Native.Nat.{ℕ, ◌≤◌, ◌<◌}
use mathlib.Core.Path.{◌≡◌, sym, ◌∙◌}
use mathlib.Core.Bool.{true, false}
use mathlib.Core.List.{List}
use lib.Dec.{eqb}
use lib.ListN.{length}
use borrow.Author.Tests.{le-leb, lt-leb}
use Rattle.atr.specs.declared.report.Report.{Report}
use Rattle.atr.specs.Answer.{zeros}
use Rattle.slot.specs.declared.parts.Next.{Next}
use Rattle.slot.specs.Blocks.{sent_length, sent_out}
use Rattle.answer.specs.Record.{told_of}
use Rattle.entry.specs.Entry.{state_in}
use Rattle.table.specs.Layout.{table_size, entry_in, command_in, with_slot}
use Rattle.table.proofs.WriteLaws.{pool_same}
use Rattle.call.specs.Call.{next_of, pool_after}
use Rattle.hearing.specs.Parts.{told_by, greeted_in, heard_in, heard_pool}
use Rattle.hearing.specs.Event.{event_in, event_pool, event_table, event_out, event_record}

module _ (t out rec : List ℕ) (i : ℕ) where
  -- what a call that sends leaves: the table, the output, the record
  abbrev Sent : (u : List ℕ) → Next → Report → (v : List ℕ) → Next → Type 0
  Sent u m r v n =
      (with_slot u i m.slot ≡ with_slot v i n.slot)
      × (sent_out out m.send (command_in u i) ≡ sent_out out n.send (command_in v i))
      × (told_of rec m (sent_length out m.send (command_in u i)) r ≡ told_by rec out n (command_in v i))

  pub finish_ap : {m n : Next} {r : Report} → m ≡ n → r ≡ zeros → Sent t m r t n
  finish_ap e f = (rw e, rw e, rw (e, f))

  module _ (k : ℕ) (bs : List ℕ) where
    -- table, output and record as an event leaves them
    abbrev pub Left : (u o r : List ℕ) → Type 0
    Left u o r = (u ≡ event_table t i k bs) × (o ≡ event_out t i k bs out) × (r ≡ event_record t i k bs out rec)

    -- a short table
    pub left_short : length t < table_size → Left t out rec
    unfolding event_table event_out event_record
    left_short h =
        let e = lt-leb table_size (length t) h in
        (sym (rw e), sym (rw e), sym (rw e))

    pub left_long : table_size ≤ length t
        → Left (with_slot (event_pool t i k bs) i (event_in t i k bs).slot) (sent_out out (event_in t i k bs).send (command_in (event_pool t i k bs) i)) (told_by rec out (event_in t i k bs) (command_in (event_pool t i k bs) i))
    unfolding event_table event_out event_record
    left_long h =
        let e = le-leb table_size (length t) h in
        (sym (rw e), sym (rw e), sym (rw e))

    -- while greeting the pool stays
    greet-ap : eqb (state_in (entry_in t i)) 1 ≡ true → Sent t (greeted_in t i k bs) zeros (event_pool t i k bs) (event_in t i k bs)
    unfolding next_of pool_after
    greet-ap e = (sym (rw (e, pool_same t)), sym (rw (e, pool_same t)), sym (rw (e, pool_same t)))

    hear_ap : eqb (state_in (entry_in t i)) 1 ≡ false → Sent (heard_pool t i k bs) (heard_in t i k bs) zeros (event_pool t i k bs) (event_in t i k bs)
    unfolding next_of pool_after
    hear_ap e = (sym (rw e), sym (rw e), sym (rw e))

    pub left_greeting : table_size ≤ length t → eqb (state_in (entry_in t i)) 1 ≡ true
        → Left (with_slot t i (greeted_in t i k bs).slot) (sent_out out (greeted_in t i k bs).send (command_in t i)) (told_by rec out (greeted_in t i k bs) (command_in t i))
    left_greeting h e =
        let f = greet-ap e in
        let g = left_long h in
        (f.0 ∙ g.0, f.1 ∙ g.1, f.2 ∙ g.2)

    pub left_busy : table_size ≤ length t → eqb (state_in (entry_in t i)) 1 ≡ false
        → Left (with_slot (heard_pool t i k bs) i (heard_in t i k bs).slot) (sent_out out (heard_in t i k bs).send (command_in (heard_pool t i k bs) i)) (told_by rec out (heard_in t i k bs) (command_in (heard_pool t i k bs) i))
    left_busy h e =
        let f = hear_ap e in
        let g = left_long h in
        (f.0 ∙ g.0, f.1 ∙ g.1, f.2 ∙ g.2)
