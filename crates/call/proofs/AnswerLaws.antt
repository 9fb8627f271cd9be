-- The promises of each call, from what its parts leave: of a refusal, and where none applies. Assumes nothing.
use Prim.Native.Nat.{ℕ}
use mathlib.Core.Path.{◌≡◌, refl, sym, ap, ◌∙◌}
use mathlib.Core.List.{List, []}
use borrow.Author.Tests.{ne_eqb}
use lib.ListN.{length}
use Rattle.lent.specs.Place.{splice}
use Rattle.lent.proofs.PlaceLaws.{splice_none}
use Rattle.atr.specs.declared.report.Report.{Report}
use Rattle.atr.specs.Answer.{zeros, report_in, answer_of}
use Rattle.pool.specs.Calls.{released, response, copied}
use Rattle.session.specs.Call.{Lent, Input, event, refuses}
use Rattle.slot.specs.declared.parts.Slot.{Slot}
use Rattle.slot.specs.declared.parts.Next.{Next}
use Rattle.slot.specs.Blocks.{sent_length, sent_out}
use Rattle.greeting.specs.Greeting.{attached}
use Rattle.turn.specs.Calls.{commanded}
use Rattle.terminal.specs.Calls.{collected, collected_pool, removed}
use Rattle.entry.specs.Entry.{line_in}
use Rattle.table.specs.Layout.{pool_in, entry_in, command_in, with_pool, with_slot, with_command, changed}
use Rattle.table.proofs.WriteLaws.{pool_same, with_command_none}
use Rattle.answer.specs.Record.{record_bytes, told, told_of}
use Rattle.call.specs.Call.{lends, attaching, commanding, hearing, collecting, removing, refusal_of, next_of, pool_after, kept_by, out_of, report_by, answer, table_after}
use Rattle.call.proofs.BuiltLaws.{attach-built, command-built, event-built, collect_next, collect_pool}
use Rattle.call.proofs.EventLaws.{event-command}

-- ---- the table as it is written

module _ (t : List ℕ) (i : ℕ) (x : Slot) where
  entry_changed : (q : List ℕ) → with_slot (with_pool t q) i x ≡ changed t i q [] x
  unfolding changed
  entry_changed q = ap (λ (u : List ℕ). with_slot u i x) (sym (with_command_none (with_pool t q) i))

  command_changed : (bs : List ℕ) → with_slot (with_command t i bs) i x ≡ changed t i (pool_in t) bs x
  unfolding changed
  command_changed bs = ap (λ (u : List ℕ). with_slot (with_command u i bs) i x) (sym (pool_same t))

  alone_changed : with_slot t i x ≡ changed t i (pool_in t) [] x
  alone_changed = ap (λ (u : List ℕ). with_slot u i x) (sym (with_command_none t i)) ∙ command_changed []

-- ---- what a call leaves: the number n, the table u, the output o and the record r

module _ (t out rec : List ℕ) (i : ℕ) where
  abbrev pub Leaves : Input → (n : ℕ) → (u o r : List ℕ) → Type 0
  Leaves x n u o r =
      (n ≡ (answer t i x).number) × ((u ≡ table_after t i x) × ((o ≡ splice out 0 (answer t i x).out) × (r ≡ told rec (answer t i x))))

  -- a refusal returns its number, leaves table and output, and its number stands in the record
  pub refused : (x : Input) (n : ℕ) → refusal_of t i x ≡ n → (n ≡ 0 → ⊥) → Leaves x n t out (told rec (refuses n))
  unfolding answer table_after
  refused x n e d =
      let z = ne_eqb n 0 d in
      (sym (rw (e, z)), (sym (rw (e, z)), (sym (rw (e, z) (splice_none out 0)), sym (rw (e, z)))))

  -- other answers have number 0
  given : (x : Input) → refusal_of t i x ≡ 0
      → Leaves x 0 (changed t i (pool_after t i x) (kept_by x) (next_of t i x).slot) (splice out 0 (out_of t i x)) (told_of rec (next_of t i x) (length (out_of t i x)) (report_by x))
  unfolding answer table_after told told_of record_bytes
  given x e = (sym (rw e), (sym (rw e), (sym (rw e), sym (rw e))))

  -- ---- by call, from what the code's parts leave

  module _ (n : Next) (w : ℕ) where
    pub attach_leaves : (atr : List ℕ) (p : Report) → refusal_of t i (attaching t out rec atr) ≡ 0 → report_in (answer_of atr) ≡ p → n ≡ attached p
        → w ≡ sent_length out n.send (command_in t i)
        → Leaves (attaching t out rec atr) 0 (with_slot t i n.slot) (sent_out out n.send (command_in t i)) (told_of rec n w p)
    unfolding next_of pool_after
    attach_leaves atr p none f e l =
        let x : Input = attaching t out rec atr in
        let b = attach-built t i (lends (length t) (length out) (length rec)) atr out none refl (command_in t i) in
        let g = given x none in
        let m : n ≡ next_of t i x = e ∙ ap attached (sym f) in (
          g.0,
          (
            rw m (alone_changed t i (next_of t i x).slot ∙ g.1.0),
            (rw m (b.0 ∙ g.1.1.0), rw (l, m, b.1, ← f) g.1.1.1),
          ),
        )

    pub command_leaves : (bs : List ℕ) → refusal_of t i (commanding t out rec bs) ≡ 0 → n ≡ commanded (line_in (entry_in t i)) bs
        → w ≡ sent_length out n.send bs
        → Leaves (commanding t out rec bs) 0 (with_slot (with_command t i bs) i n.slot) (sent_out out n.send bs) (told_of rec n w zeros)
    unfolding next_of pool_after
    command_leaves bs none m l =
        let x : Input = commanding t out rec bs in
        let b = command-built t i (lends (length t) (length out) (length rec)) bs out none refl in
        let g = given x none in (
          g.0,
          (
            rw m (command_changed t i (next_of t i x).slot bs ∙ g.1.0),
            (rw m (b.0 ∙ g.1.1.0), rw (l, m, b.1) g.1.1.1),
          ),
        )

    -- v is the table after the pool's part; what is lent does not matter to what an event gives
    pub event_leaves : (q : Lent) (k : ℕ) (bs v : List ℕ) → refusal_of t i (hearing t out rec k bs) ≡ 0 → n ≡ next_of t i (event q k bs)
        → v ≡ with_pool t (pool_after t i (event q k bs)) → w ≡ sent_length out n.send (command_in v i)
        → Leaves (hearing t out rec k bs) 0 (with_slot v i n.slot) (sent_out out n.send (command_in v i)) (told_of rec n w zeros)
    unfolding next_of pool_after
    event_leaves q k bs v none m e l =
        let x : Input = hearing t out rec k bs in
        let b = event-built t i (lends (length t) (length out) (length rec)) k bs out none refl in
        let c : command_in v i ≡ command_in t i =
        ap (λ (u : List ℕ). command_in u i) e ∙ event-command t i (lends (length t) (length out) (length rec)) k bs none in
        let g = given x none in (
          g.0,
          (
            rw (e, m) (entry_changed t i (next_of t i x).slot (pool_after t i x) ∙ g.1.0),
            (rw (c, m) (b.0 ∙ g.1.1.0), rw (l, c, m, b.1) g.1.1.1),
          ),
        )

    pub collect_leaves : refusal_of t i (collecting t out rec) ≡ 0 → n ≡ collected (pool_in t) i (line_in (entry_in t i)) out
        → w ≡ length (response (pool_in t) i)
        → Leaves (collecting t out rec) 0 (with_slot (with_pool t (collected_pool (pool_in t) i out)) i n.slot) (copied (pool_in t) i out) (told_of rec n w zeros)
    unfolding out_of copied
    collect_leaves none e l =
        let x : Input = collecting t out rec in
        let m : n ≡ next_of t i x = e ∙ collect_next t i (lends (length t) (length out) (length rec)) out none refl in
        let q = collect_pool t i (lends (length t) (length out) (length rec)) out none refl in
        let g = given x none in (
          g.0,
          (
            rw (q, m) (entry_changed t i (next_of t i x).slot (pool_after t i x) ∙ g.1.0),
            (g.1.1.0, rw (l, m) g.1.1.1),
          ),
        )

-- remove has no output
module _ (t rec : List ℕ) (i : ℕ) where
  abbrev pub LeavesNone : (n : ℕ) → (u r : List ℕ) → Type 0
  LeavesNone n u r =
      (n ≡ (answer t i (removing t rec)).number) × ((u ≡ table_after t i (removing t rec)) × (r ≡ told rec (answer t i (removing t rec))))

  pub remove-refused : (n : ℕ) → refusal_of t i (removing t rec) ≡ n → (n ≡ 0 → ⊥) → LeavesNone n t (told rec (refuses n))
  remove-refused n e d = let f = refused t [] rec i (removing t rec) n e d in (f.0, (f.1.0, f.1.1.1))

  pub remove_leaves : refusal_of t i (removing t rec) ≡ 0
      → LeavesNone 0 (with_slot (with_pool t (released (pool_in t) i)) i removed.slot) (told_of rec removed 0 zeros)
  unfolding next_of pool_after out_of
  remove_leaves none =
      let g = given t [] rec i (removing t rec) none in
      (g.0, (entry_changed t i removed.slot (released (pool_in t) i) ∙ g.1.0, g.1.1.1))
