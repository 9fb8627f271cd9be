-- The number of a refusal is the lowest that applies, and none is given otherwise. Assumes nothing.
use Prim.Native.Nat.{ℕ, ◌≤◌, ◌<◌}
use mathlib.Core.Path.{◌≡◌, refl, sym, ◌∙◌, subst}
use mathlib.Core.Bool.{Bool, true, false, ◌&&◌, false≢true}
use mathlib.Core.List.{List, [], ◌∷◌}
use native.Mathlib.Omega.{arith}
use lib.Dec.{eqb, ltb}
use borrow.Author.Tests.{ltb-true, eq-eqb, ne_eqb}
use Rattle.lent.proofs.Cases.{and_left, and_right, and_false, le_or_lt, eq_or_ne}
use Rattle.atr.specs.Answer.{number_of, terms_of}
use Rattle.session.specs.Call.{Input, attach, command, event, collect, remove}
use Rattle.session.specs.Refusal.{Test, ◌when◌, first}
use Rattle.call.specs.Call.{refusal_of}
use Rattle.call.specs.Open.{open_rows, open_refusal}
use Rattle.call.specs.Lowest.{rows, applies, Lowest}

-- ---- one row

module _ (n : ℕ) (b : Bool) (ts : List Test) (m : ℕ) where
  -- of another number
  other_row : (n ≡ m → ⊥) → applies ((n when b) ∷ ts) m ≡ applies ts m
  unfolding applies
  other_row d = rw (ne_eqb n m d)

  -- that does not hold
  false-row : b ≡ false → applies ((n when b) ∷ ts) m ≡ applies ts m
  unfolding applies
  false-row e = rw (and_false (eqb n m) b e)

own_row : (n : ℕ) (ts : List Test) → applies ((n when true) ∷ ts) n ≡ true
unfolding applies
own_row n ts = rw (eq-eqb n n refl)

-- ---- a list whose numbers rise, from above k on

unfoldable rises : (k : ℕ) → List Test → Bool
rises k [] = true
rises k ((n when b) ∷ ts) = ltb k n && rises n ts

rises_head : (k n : ℕ) (b : Bool) (ts : List Test) → rises k ((n when b) ∷ ts) ≡ true → k < n
unfolding rises
rises_head k n b ts r = ltb-true k n (and_left _ _ r)

rises_rest : (k n : ℕ) (b : Bool) (ts : List Test) → rises k ((n when b) ∷ ts) ≡ true → rises n ts ≡ true
unfolding rises
rises_rest k n b ts r = and_right (ltb k n) _ r

-- none applies of the numbers that it starts above
not_below : (k : ℕ) (ts : List Test) → rises k ts ≡ true → (m : ℕ) → m ≤ k → applies ts m ≡ false
unfolding applies
not_below k [] r m h = refl
not_below k ((n when b) ∷ ts) r m h =
    let above : k < n = rises_head k n b ts r in
    other_row n b ts m (λ e. absurd (omega arith)) ∙ not_below n ts (rises_rest k n b ts r) m (omega arith)

first_above : (k : ℕ) (ts : List Test) → rises k ts ≡ true → Lowest ts (first ts)
unfolding applies
first_above k [] r = record { given = λ d. absurd (d refl); lower = λ m h. absurd (omega arith); none = λ e m. refl }
first_above k ((n when true) ∷ ts) r =
    let above : k < n = rises_head k n true ts r in
    record {
      given = λ d. own_row n ts;
      lower = λ m h. other_row n true ts m (λ e. absurd (omega arith)) ∙ not_below n ts (rises_rest k n true ts r) m (omega arith);
      none = λ e. absurd (omega arith);
    }
first_above k ((n when false) ∷ ts) r =
    let rest : Lowest ts (first ts) = first_above n ts (rises_rest k n false ts r) in
    record {
      given = λ d. false-row n false ts (first ts) refl ∙ rest.given d;
      lower = λ m h. false-row n false ts m refl ∙ rest.lower m h;
      none = λ e m. false-row n false ts m refl ∙ rest.none e m;
    }

-- the first that holds is the lowest that applies
first_lowest : (ts : List Test) → rises 0 ts ≡ true → Lowest ts (first ts)
first_lowest = first_above 0

-- no other number is
pub lowest_one : (ts : List Test) (m n : ℕ) → Lowest ts m → Lowest ts n → m ≡ n
lowest_one ts m n a b =
    eq_or_ne m 0
    (λ z. eq_or_ne n 0 (λ y. z ∙ sym y) (λ d. absurd (false≢true (sym (a.none z n) ∙ b.given d))))
    (λ c. eq_or_ne n 0 (λ y. absurd (false≢true (sym (b.none y m) ∙ a.given c)))
    (λ d. le_or_lt m n
    (λ h. eq_or_ne m n (λ e. e) (λ u. absurd (false≢true (sym (b.lower m (omega arith)) ∙ a.given c))))
    (λ h. absurd (false≢true (sym (a.lower n h) ∙ b.given d)))))

-- ---- the calls

-- the number given is the first of the table's rows
first_row : (t : List ℕ) (i : ℕ) (x : Input) → first (rows t i x) ≡ refusal_of t i x
unfolding refusal_of number_of terms_of
first_row t i (attach l atr) = refl
first_row t i (command l bs) = refl
first_row t i (event l k bs) = refl
first_row t i (collect l) = refl
first_row t i (remove l) = refl

rows_rise : (t : List ℕ) (i : ℕ) (x : Input) → rises 0 (rows t i x) ≡ true
unfolding rises
rows_rise t i (attach l atr) = refl
rows_rise t i (command l bs) = refl
rows_rise t i (event l k bs) = refl
rows_rise t i (collect l) = refl
rows_rise t i (remove l) = refl

pub refusal-lowest : (t : List ℕ) (i : ℕ) (x : Input) → Lowest (rows t i x) (refusal_of t i x)
refusal-lowest t i x = subst (Lowest (rows t i x)) (first_row t i x) (first_lowest (rows t i x) (rows_rise t i x))

-- of open: its list is the table's rows as they stand
pub open_lowest : (table : ℕ) (shares ceilings : List ℕ) (rec : ℕ)
    → Lowest (open_rows table shares ceilings rec) (open_refusal table shares ceilings rec)
unfolding open_refusal rises
open_lowest table shares ceilings rec = first_lowest (open_rows table shares ceilings rec) refl
