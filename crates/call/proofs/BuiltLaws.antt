-- What goes out where no refusal applies: the block that is built in the output, and the response that it holds.
-- Assumes nothing.
use mathlib.Core.Path.{◌≡◌}
use mathlib.Core.Bool.{true}
use mathlib.Core.Logic.{◌⊎◌, inl, inr}
use mathlib.Core.List.{List}
use Prim.Native.Nat.{ℕ, ◌+◌, ◌≤◌}
use native.Mathlib.Omega.{arith}
use lib.ListN.{length}
use borrow.Author.Tests.{le-leb}
use Rattle.lent.specs.Place.{splice}
use Rattle.pool.specs.Calls.{response}
use Rattle.session.specs.Call.{Lent, attach, command, event, collect}
use Rattle.slot.specs.Blocks.{inf_in, sent_length, sent_out, bytes_of}
use Rattle.terminal.specs.Calls.{collects, collected, collected_pool}
use Rattle.terminal.proofs.ShowsLaws.{promised}
use Rattle.entry.specs.Entry.{state_in, line_in}
use Rattle.table.specs.Layout.{pool_in, entry_in, command_in}
use Rattle.call.specs.Call.{refusal_of, next_of, pool_after, out_of}
use Rattle.call.proofs.NoneLaws.{none_output, none_heard, none_collect}
use Rattle.call.proofs.GivesLaws.{attach_gives, command_gives, busy_next, greeting_gives, busy_gives}

module _ (t : List ℕ) (i : ℕ) (l : Lent) where
  -- attach's block holds nothing of a command, whichever it is built with
  pub attach-built : (atr out : List ℕ) → refusal_of t i (attach l atr) ≡ 0 → length out ≡ l.output → (c : List ℕ)
      → (sent_out out (next_of t i (attach l atr)).send c ≡ splice out 0 (out_of t i (attach l atr)))
      × (sent_length out (next_of t i (attach l atr)).send c ≡ length (out_of t i (attach l atr)))
  unfolding out_of next_of bytes_of
  attach-built atr out none long c =
      promised.built out (next_of t i (attach l atr)).send c (attach_gives t i l atr none c).small
      (omega (arith, long, none_output t i (attach l atr) none))

  pub command-built : (bs out : List ℕ) → refusal_of t i (command l bs) ≡ 0 → length out ≡ l.output
      → (sent_out out (next_of t i (command l bs)).send bs ≡ splice out 0 (out_of t i (command l bs)))
      × (sent_length out (next_of t i (command l bs)).send bs ≡ length (out_of t i (command l bs)))
  unfolding out_of
  command-built bs out none long =
      promised.built out (next_of t i (command l bs)).send bs (command_gives t i l bs none).small
      (omega (arith, long, none_output t i (command l bs) none))

  -- an event's INF fits a block
  event-small : (k : ℕ) (bs : List ℕ) → refusal_of t i (event l k bs) ≡ 0
      → length (inf_in (next_of t i (event l k bs)).send (command_in t i)) ≤ 254
  event-small k bs none = go (none_heard t i l k bs none)
    where
      go : (state_in (entry_in t i) ≡ 1) ⊎ (state_in (entry_in t i) ≡ 3) → length (inf_in (next_of t i (event l k bs)).send (command_in t i)) ≤ 254
      go (inl e) = (greeting_gives t i l k bs none e (command_in t i)).small
      go (inr e) = rw (busy_next t i l k bs e) (busy_gives t i l k bs none e).small

  pub event-built : (k : ℕ) (bs out : List ℕ) → refusal_of t i (event l k bs) ≡ 0 → length out ≡ l.output
      → (sent_out out (next_of t i (event l k bs)).send (command_in t i) ≡ splice out 0 (out_of t i (event l k bs)))
      × (sent_length out (next_of t i (event l k bs)).send (command_in t i) ≡ length (out_of t i (event l k bs)))
  unfolding out_of
  event-built k bs out none long =
      promised.built out (next_of t i (event l k bs)).send (command_in t i) (event-small k bs none)
      (omega (arith, long, none_output t i (event l k bs) none))

  -- collect: the output holds the response, so the slot is ready and holds nothing
  module _ (out : List ℕ) (none : refusal_of t i (collect l) ≡ 0) (long : length out ≡ l.output) where
    holds : collects (pool_in t) i out ≡ true
    holds = le-leb (0 + length (response (pool_in t) i)) (length out) (omega (arith, long, none_collect t i l none))

    pub collect_next : collected (pool_in t) i (line_in (entry_in t i)) out ≡ next_of t i (collect l)
    unfolding collected next_of
    collect_next = rw holds

    pub collect_pool : collected_pool (pool_in t) i out ≡ pool_after t i (collect l)
    unfolding collected_pool pool_after
    collect_pool = rw holds
