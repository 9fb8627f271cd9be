-- Refusals as the code tries them: by the bytes of the table as they stand. Assumes nothing.
use Prim.Native.Nat.{ℕ, ◌<◌}
use mathlib.Core.Path.{◌≡◌, refl}
use mathlib.Core.Bool.{Bool, true, false, cond, not, ◌||◌}
use mathlib.Core.List.{List}
use native.Mathlib.Omega.{arith}
use borrow.Author.Tests.{ltb-false, ne_eqb}
use lib.Dec.{eqb, ltb}
use lib.ListN.{length}
use Rattle.lent.proofs.Cases.{eq_or_ne}
use Rattle.region.specs.Layout.{holders}
use Rattle.pool.specs.Calls.{response}
use Rattle.pool.proofs.Shows.{promised}
use Rattle.session.specs.Call.{Lent, Input, attach, collect}
use Rattle.session.specs.Refusal.{first, wrong_state, lent_short, own_tests}
use Rattle.atr.specs.Answer.{number_of}
use Rattle.entry.specs.Entry.{state_in}
use Rattle.table.specs.Layout.{pool_in, entry_in}
use Rattle.table.specs.Sound.{sound}
use Rattle.table.specs.View.{slot_shown}
use Rattle.table.proofs.SoundLaws.{sound_pool, state_shown, got_shown}
use Rattle.call.specs.Call.{shared, refusal_of}

-- a flag is one or the other
either : {A : Type 0} (b : Bool) → (b ≡ true → A) → (b ≡ false → A) → A
either true f g = f refl
either false f g = g refl

-- a number, or what is tried next
abbrev pub or_else : ℕ → ℕ → ℕ
or_else n m = cond (eqb n 0) m n

pub or_none : (n : ℕ) → or_else n 0 ≡ n
or_none n = eq_or_ne n 0 (λ e. rw e) (λ d. rw (ne_eqb n 0 d))

module _ (t : List ℕ) (i : ℕ) (x : Input) (short : Bool) where
  abbrev Tried : Type 0
  Tried = refusal_of t i x ≡ or_else (shared t i (wrong_state (state_in (entry_in t i)) x) short) (first (own_tests x))

  unsound : sound t ≡ false → Tried
  unfolding refusal_of
  unsound s = rw s

  beyond : sound t ≡ true → ltb 7 i ≡ true → Tried
  unfolding refusal_of
  beyond s l = rw (s, l)

  -- where there is a slot, its state and the lengths it needs are those of the slot that is shown
  module _ (e : sound t ≡ true → i < holders → short ≡ lent_short (slot_shown t i) x) where
    there : sound t ≡ true → ltb 7 i ≡ false → Tried
    unfolding refusal_of
    there s l =
        let h : i < holders = omega (arith, ltb-false 7 i l) in
        rw (s, l, state_shown t s i h, ← e s h)
        (either (wrong_state (state_in (entry_in t i)) x) (λ w. rw w) (λ w. either short (λ r. rw (w, r)) (λ r. rw (w, r))))

    pub tried : Tried
    tried = either (sound t) (λ s. either (ltb 7 i) (beyond s) (there s)) unsound

-- collect needs an output that holds the response
pub collect-short : (t : List ℕ) (i : ℕ) (l : Lent) → sound t ≡ true → i < holders
    → (ltb l.answer 64 || ltb l.output (length (response (pool_in t) i))) ≡ lent_short (slot_shown t i) (collect l)
collect-short t i l s h = rw (got_shown t s i h, (promised.shows (pool_in t) (sound_pool t s)).response i)

-- attach: these tests, then the ATR
pub attach_tried : (t : List ℕ) (i : ℕ) (l : Lent) (atr : List ℕ)
    → refusal_of t i (attach l atr) ≡ or_else (shared t i (not (eqb (state_in (entry_in t i)) 0)) (ltb l.answer 64 || ltb l.output 258)) (number_of atr)
attach_tried t i l atr = tried t i (attach l atr) (ltb l.answer 64 || ltb l.output 258) (λ s h. refl)
