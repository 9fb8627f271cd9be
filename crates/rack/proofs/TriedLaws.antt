-- Refusals call by call, as the code tries them: what all calls share, then a call's own test. Assumes nothing.
use Prim.Native.Nat.{ℕ}
use mathlib.Core.Path.{◌≡◌, refl, ◌∙◌}
use mathlib.Core.Bool.{◌||◌, cond, not}
use mathlib.Core.List.{List}
use lib.Dec.{eqb, ltb}
use lib.ListN.{length}
use Rattle.pool.specs.Calls.{response}
use Rattle.session.specs.Call.{Lent, command, event, collect, remove}
use Rattle.session.specs.Refusal.{good_form}
use Rattle.entry.specs.Entry.{state_in}
use Rattle.table.specs.Layout.{pool_in, entry_in}
use Rattle.call.specs.Call.{shared, refusal_of}
use Rattle.call.proofs.RefusalLaws.{or_else, or_none, tried, collect-short}

module _ (t : List ℕ) (i : ℕ) (l : Lent) where
  pub command_tried : (bs : List ℕ)
      → refusal_of t i (command l bs) ≡ or_else (shared t i (not (eqb (state_in (entry_in t i)) 2)) (ltb l.answer 64 || ltb l.output 258)) (cond (not (good_form bs)) 7 0)
  command_tried bs = tried t i (command l bs) (ltb l.answer 64 || ltb l.output 258) (λ s h. refl)

  pub event_tried : (k : ℕ) (bs : List ℕ)
      → refusal_of t i (event l k bs) ≡ or_else (shared t i (not (eqb (state_in (entry_in t i)) 1 || eqb (state_in (entry_in t i)) 3)) (ltb l.answer 64 || ltb l.output 258)) (cond (ltb 2 k) 6 0)
  event_tried k bs = tried t i (event l k bs) (ltb l.answer 64 || ltb l.output 258) (λ s h. refl)

  pub collect_tried : refusal_of t i (collect l) ≡ shared t i (not (eqb (state_in (entry_in t i)) 4)) (ltb l.answer 64 || ltb l.output (length (response (pool_in t) i)))
  collect_tried = tried t i (collect l) (ltb l.answer 64 || ltb l.output (length (response (pool_in t) i))) (collect-short t i l) ∙ or_none _

  pub remove_tried : refusal_of t i (remove l) ≡ shared t i (eqb (state_in (entry_in t i)) 0) (ltb l.answer 64 || ltb l.output 0)
  remove_tried = tried t i (remove l) (ltb l.answer 64 || ltb l.output 0) (λ s h. refl) ∙ or_none _
