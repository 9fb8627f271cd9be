-- Going by the outcome of a test. Assumes nothing.
use mathlib.Core.Path.{◌≡◌, refl, sym, ap, ◌∙◌}
use mathlib.Core.Bool.{Bool, true, false, cond, not, ◌&&◌, ◌||◌, false≢true}
use Prim.Native.Nat.{ℕ, ◌≤◌, ◌<◌}
use lib.Dec.{ltb, leb, eqb}
use borrow.Author.Tests.{leb-true, leb-false, eqb-true, eqb-false, lt-ltb, le-ltb, lt-leb, le-leb}

-- what holds of both answers holds of the answer that a test picks
pub cond_case : {A : Type 0} (P : A → Type 0) (t : Bool) {x y : A} → (t ≡ true → P x) → (t ≡ false → P y) → P (cond t x y)
cond_case P true f g = f refl
cond_case P false f g = g refl

pub le_or_lt : {A : Type 0} (a b : ℕ) → (a ≤ b → A) → (b < a → A) → A
le_or_lt {A} a b f g = go (leb a b) refl
  where
    go : (t : Bool) → leb a b ≡ t → A
    go true e = f (leb-true a b e)
    go false e = g (leb-false a b e)

pub eq_or_ne : {A : Type 0} (a b : ℕ) → (a ≡ b → A) → ((a ≡ b → ⊥) → A) → A
eq_or_ne {A} a b f g = go (eqb a b) refl
  where
    go : (t : Bool) → eqb a b ≡ t → A
    go true e = f (eqb-true a b e)
    go false e = g (eqb-false a b e)

-- not at most is more
pub not_leb : (a b : ℕ) → not (leb a b) ≡ ltb b a
not_leb a b =
    le_or_lt a b
    (λ h. ap not (le-leb a b h) ∙ sym (le-ltb b a h))
    (λ h. ap not (lt-leb a b h) ∙ sym (lt-ltb b a h))

-- the parts of a test that held
pub and_left : (a b : Bool) → (a && b) ≡ true → a ≡ true
and_left true b e = refl
and_left false b e = e

pub and_right : (a b : Bool) → (a && b) ≡ true → b ≡ true
and_right true b e = e
and_right false b e = absurd (false≢true e)

-- one part of a test is settled
pub and_true : (a b : Bool) → a ≡ true → (a && b) ≡ b
and_true a b e = rw e

pub and_false : (a b : Bool) → b ≡ false → (a && b) ≡ false
and_false true b e = e
and_false false b e = refl

-- where the first part holds the second is the same
pub and_under : (a : Bool) {b c : Bool} → (a ≡ true → b ≡ c) → (a && b) ≡ (a && c)
and_under true e = e refl
and_under false e = refl

-- and of one that did not
pub or_left : (a b : Bool) → (a || b) ≡ false → a ≡ false
or_left true b e = e
or_left false b e = refl

pub or_right : (a b : Bool) → (a || b) ≡ false → b ≡ false
or_right true b e = absurd (false≢true (sym e))
or_right false b e = e
