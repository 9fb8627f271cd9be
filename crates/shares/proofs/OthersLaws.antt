-- A sum, and the same sum without one holder. Assumes nothing.
use Prim.Native.Nat.{ℕ, ◌+◌, ◌<◌}
use mathlib.Core.Path.{◌≡◌, refl, ap}
use mathlib.Core.Bool.{cond}
use native.Mathlib.Omega.{arith}
use lib.Dec.{eqb}
use borrow.Author.Tests.{eq-eqb, ne_eqb}
use Rattle.lent.specs.Fold.{sum}
use Rattle.lent.proofs.Cases.{eq_or_ne}
use Rattle.lent.proofs.FoldLaws.{sum_ext, sum_grow}
use Rattle.shares.specs.Pool.{others}

pub sum_others : (n i : ℕ) (f : ℕ → ℕ) → i < n → sum n f ≡ f i + sum n (others i f)
sum_others n i f h =
    omega (
      arith,
      sum_grow (others i f) f n i (f i) h (rw (eq-eqb i i refl) (omega arith)) (λ k l d. rw (ne_eqb k i d)),
    )

pub others_ext : (n i : ℕ) (f g : ℕ → ℕ) → ((j : ℕ) → j < n → (j ≡ i → ⊥) → f j ≡ g j) → sum n (others i f) ≡ sum n (others i g)
others_ext n i f g e =
    sum_ext (others i f) (others i g) n (λ j l.
    eq_or_ne j i
    (λ q. rw (eq-eqb j i q))
    (λ d. ap (cond (eqb j i) 0) (e j l d)))
