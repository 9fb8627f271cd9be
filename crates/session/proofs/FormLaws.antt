-- A command of a good form has 4 to 261 bytes. Assumes nothing.
use Prim.Native.Nat.{ℕ, ◌+◌, ◌≤◌}
use mathlib.Core.Path.{◌≡◌, refl}
use mathlib.Core.Bool.{Bool, true, false, not, ◌||◌}
use mathlib.Core.List.{List}
use native.Mathlib.Omega.{arith}
use lib.Dec.{leb, eqb}
use lib.ListN.{length, get_or}
use borrow.Author.Tests.{leb-true, eqb-true, not-false}
use Rattle.lent.proofs.Cases.{cond_case, and_left, and_right}
use Rattle.block.specs.Event.{between}
use Rattle.session.specs.Slot.{State, state_no}
use Rattle.session.specs.Call.{Lent, command}
use Rattle.session.specs.Refusal.{table_short, wrong_state, lent_short, good_form, refusal}

pub record FormFits (bs : List ℕ) : Type 0 where
  pub least : 4 ≤ length bs
  pub most : length bs ≤ 261

-- one part of a test that held
or_case : {A : Type 0} (a b : Bool) → (a ≡ true → A) → (b ≡ true → A) → (a || b) ≡ true → A
or_case true b f g e = f refl
or_case false b f g e = g e

sized : (bs : List ℕ) (n : ℕ) → 4 ≤ n → n ≤ 261 → eqb (length bs) n ≡ true → FormFits bs
sized bs n low high e =
    let long : length bs ≡ n = eqb-true (length bs) n e in record { least = omega arith; most = omega arith }

pub form_fits : (bs : List ℕ) → good_form bs ≡ true → FormFits bs
unfolding good_form
form_fits bs =
    or_case (eqb (length bs) 4) _ (sized bs 4 (omega arith) (omega arith))
    (or_case (eqb (length bs) 5) _ (sized bs 5 (omega arith) (omega arith))
    (λ e.
    let l : ℕ = get_or bs 4 0 in
    let high : l ≤ 255 = leb-true l 255 (and_right (leb 1 l) (leb l 255) (and_left (between 1 l 255) _ e)) in
    or_case (eqb (length bs) (5 + l)) (eqb (length bs) (6 + l))
    (sized bs (5 + l) (omega arith) (omega arith)) (sized bs (6 + l) (omega arith) (omega arith))
    (and_right (between 1 l 255) _ e)))

-- a command that is not refused has a good form
pub form_of : (s : State) (l : Lent) (bs : List ℕ) → refusal s (command l bs) ≡ 0 → good_form bs ≡ true
unfolding refusal
form_of s l bs =
    cond_case P (table_short (command l bs)) {x = 1} (λ _ r. absurd (omega arith))
    (λ _. cond_case P (wrong_state (state_no s) (command l bs)) {x = 4} (λ _ r. absurd (omega arith))
    (λ _. cond_case P (lent_short s (command l bs)) {x = 5} (λ _ r. absurd (omega arith))
    (λ _. cond_case P (not (good_form bs)) {x = 7} {y = 0} (λ _ r. absurd (omega arith))
    (λ e _. not-false (good_form bs) e))))
  where
    P : ℕ → Type 0
    P n = n ≡ 0 → good_form bs ≡ true
