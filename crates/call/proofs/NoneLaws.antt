-- What it is that no refusal applies: what each test left. Assumes nothing.
use mathlib.Core.Path.{◌≡◌, refl, sym, ap, ◌∙◌, subst}
use mathlib.Core.Bool.{Bool, true, false, cond, not, ◌||◌}
use mathlib.Core.Logic.{◌⊎◌, inl, inr}
use mathlib.Core.List.{List}
use Prim.Native.Nat.{ℕ, ◌≤◌, ◌<◌}
use native.Mathlib.Omega.{arith}
use lib.Dec.{eqb, ltb}
use lib.ListN.{length}
use borrow.Author.Tests.{ltb-false, eqb-true, not-false}
use Rattle.lent.proofs.Cases.{or_right}
use Rattle.std.specs.Prelude.{Ok}
use Rattle.atr.specs.Report.{Bounded}
use Rattle.atr.specs.Answer.{report_in, answer_of, Told}
use Rattle.atr.proofs.AnswerLaws.{answer-told}
use Rattle.region.specs.Layout.{holders}
use Rattle.pool.specs.Calls.{response}
use Rattle.pool.specs.Contents.{join}
use Rattle.pool.proofs.Shows.{promised}
use Rattle.session.specs.Slot.{state_no, got_in}
use Rattle.session.specs.Call.{Lent, Input, attach, command, event, collect}
use Rattle.session.specs.Refusal.{first, lent_to, wrong_state, output_need, lent_short, good_form, own_tests}
use Rattle.entry.specs.Entry.{state_in}
use Rattle.table.specs.Layout.{pool_in, entry_in}
use Rattle.table.specs.Sound.{sound}
use Rattle.table.specs.View.{slot_shown}
use Rattle.table.proofs.SoundLaws.{sound_pool, state_shown, got_shown}
use Rattle.call.specs.Call.{refusal_of}

-- one test left no number: it did not apply, and the others left none
pub past : (b : Bool) (n m : ℕ) → 1 ≤ n → cond b n m ≡ 0 → (b ≡ false) × (m ≡ 0)
past true n m h e = absurd (omega arith)
past false n m h e = (refl, e)

-- ---- of any call

record Passed (t : List ℕ) (i : ℕ) (x : Input) : Type 0 where
  table : not (sound t) ≡ false
  slot : ltb 7 i ≡ false
  state : wrong_state (state_no (slot_shown t i)) x ≡ false
  lent : lent_short (slot_shown t i) x ≡ false
  own : first (own_tests x) ≡ 0

module _ (t : List ℕ) (i : ℕ) (x : Input) (none : refusal_of t i x ≡ 0) where
  passed : Passed t i x
  unfolding refusal_of
  passed =
      let at1 = past (not (sound t)) 1 _ (omega arith) none in
      let at3 = past (ltb 7 i) 3 _ (omega arith) at1.1 in
      let at4 = past (wrong_state (state_no (slot_shown t i)) x) 4 _ (omega arith) at3.1 in
      let at5 = past (lent_short (slot_shown t i) x) 5 _ (omega arith) at4.1 in
      record { table = at1.0; slot = at3.0; state = at4.0; lent = at5.0; own = at5.1 }

  -- 1: the table is sound
  pub none_sound : sound t ≡ true
  none_sound = not-false (sound t) passed.table

  -- 3: there is such a slot
  pub none_slot : i < holders
  none_slot = omega (arith, ltb-false 7 i passed.slot)

  -- 4: it is in a state that the call needs
  pub none_state : wrong_state (state_in (entry_in t i)) x ≡ false
  none_state = ap (λ (n : ℕ). wrong_state n x) (sym (state_shown t none_sound i none_slot)) ∙ passed.state

  -- 5: enough is lent
  pub none_lent : lent_short (slot_shown t i) x ≡ false
  none_lent = passed.lent

  -- of the output: 258 bytes to attach, command and event, all of the response to collect
  pub none_output : output_need (slot_shown t i) x ≤ (lent_to x).output
  none_output = ltb-false (lent_to x).output (output_need (slot_shown t i) x) (or_right (ltb (lent_to x).answer 64) _ none_lent)

  -- 6 to 12: the call's own tests leave none
  pub none_own : first (own_tests x) ≡ 0
  none_own = passed.own

-- ---- by call

module _ (t : List ℕ) (i : ℕ) (l : Lent) where
  -- attach: the ATR is taken
  module _ (atr : List ℕ) (none : refusal_of t i (attach l atr) ≡ 0) where
    pub none_atr : answer_of atr ≡ Ok (report_in (answer_of atr))
    unfolding answer_of
    none_atr = rw (none_own t i (attach l atr) none)

    -- and so the report has its bounds
    pub none_bounded : Bounded (report_in (answer_of atr))
    none_bounded = subst Told none_atr (answer-told atr)

    pub none_empty : state_in (entry_in t i) ≡ 0
    none_empty = eqb-true (state_in (entry_in t i)) 0 (not-false _ (none_state t i (attach l atr) none))

  -- command: its form is good, and the slot is ready
  module _ (bs : List ℕ) (none : refusal_of t i (command l bs) ≡ 0) where
    pub none_form : good_form bs ≡ true
    none_form = not-false (good_form bs) (past (not (good_form bs)) 7 0 (omega arith) (none_own t i (command l bs) none)).0

    pub none_ready : state_in (entry_in t i) ≡ 2
    none_ready = eqb-true (state_in (entry_in t i)) 2 (not-false _ (none_state t i (command l bs) none))

  -- event: the slot is greeting or busy
  pub none_heard : (k : ℕ) (bs : List ℕ) → refusal_of t i (event l k bs) ≡ 0 → (state_in (entry_in t i) ≡ 1) ⊎ (state_in (entry_in t i) ≡ 3)
  none_heard k bs none = go (eqb (state_in (entry_in t i)) 1) refl (not-false _ (none_state t i (event l k bs) none))
    where
      go : (b : Bool) → eqb (state_in (entry_in t i)) 1 ≡ b → (b || eqb (state_in (entry_in t i)) 3) ≡ true
          → (state_in (entry_in t i) ≡ 1) ⊎ (state_in (entry_in t i) ≡ 3)
      go true e o = inl (eqb-true _ 1 e)
      go false e o = inr (eqb-true _ 3 o)

  -- collect: the output holds the response, and the slot is done
  module _ (none : refusal_of t i (collect l) ≡ 0) where
    pub none_collect : length (response (pool_in t) i) ≤ l.output
    none_collect =
        let s = none_sound t i (collect l) none in
        let same : response (pool_in t) i ≡ join (got_in (slot_shown t i)) =
        (promised.shows (pool_in t) (sound_pool t s)).response i ∙ ap join (sym (got_shown t s i (none_slot t i (collect l) none))) in
        rw same (none_output t i (collect l) none)

    pub none_done : state_in (entry_in t i) ≡ 4
    none_done = eqb-true (state_in (entry_in t i)) 4 (not-false _ (none_state t i (collect l) none))
