-- Laws of the folds: a loop's turn, and what a fold says of each number. Assumes nothing.
use mathlib.Core.Path.{◌≡◌, refl, sym, ap, ap₂, ◌∙◌, subst}
use mathlib.Core.Bool.{Bool, true, false, cond, ◌&&◌, false≢true}
use Prim.Native.Nat.{ℕ, zero, suc, ◌+◌, ◌≤◌, ◌<◌}
use native.Mathlib.Numerals.{add-one}
use native.Mathlib.Omega.{arith}
use Rattle.lent.specs.Fold.{all, sum, first}
use Rattle.lent.proofs.Cases.{and_left, and_right, eq_or_ne, le_or_lt}

-- ---- all

module _ (f : ℕ → Bool) where
  -- one turn of a loop that counts up
  pub all_next : (n : ℕ) → all (n + 1) f ≡ (all n f && f n)
  unfolding all
  all_next n = rw (add-one n)

  -- where a loop ends that counted up to n
  pub all_end : (k n : ℕ) → k ≡ n → all k f ≡ true → all n f ≡ true
  all_end k n e h = subst (λ (m : ℕ). all m f ≡ true) e h

  -- what holds of all holds of each
  pub all_at : (n k : ℕ) → all n f ≡ true → k < n → f k ≡ true
  unfolding all
  all_at zero k e h = absurd (omega arith)
  all_at (suc n) k e h = go (all_at n k (and_left (all n f) (f n) e))
    where
      go : (k < n → f k ≡ true) → f k ≡ true
      go ih =
          eq_or_ne k n (λ q. subst (λ (i : ℕ). f i ≡ true) (sym q) (and_right (all n f) (f n) e)) (λ d. ih (omega arith))

  -- what holds of each holds of all
  pub all_of : (n : ℕ) → ((k : ℕ) → k < n → f k ≡ true) → all n f ≡ true
  unfolding all
  all_of zero g = refl
  all_of (suc n) g = rw (all_of n (λ k h. g k (omega arith)), g n (omega arith))

  -- where it fails of one, it does not hold of all
  pub all_fails : (n k : ℕ) → k < n → f k ≡ false → all n f ≡ false
  unfolding all
  all_fails n k h e = go (all n f) refl
    where
      go : (b : Bool) → all n f ≡ b → b ≡ false
      go false q = refl
      go true q = absurd (false≢true (sym e ∙ all_at n k q h))

-- ---- sum

module _ (f : ℕ → ℕ) where
  pub sum_next : (n : ℕ) → sum (n + 1) f ≡ sum n f + f n
  unfolding sum
  sum_next n = rw (add-one n)

  pub sum_end : (k n total : ℕ) → k ≡ n → total ≡ sum k f → total ≡ sum n f
  sum_end k n total e h = subst (λ (m : ℕ). total ≡ sum m f) e h

  pub sum-zero : (n : ℕ) → ((k : ℕ) → k < n → f k ≡ 0) → sum n f ≡ 0
  unfolding sum
  sum-zero zero e = refl
  sum-zero (suc n) e = omega (arith, sum-zero n (λ k h. e k (omega arith)), e n (omega arith))

  -- terms of at most 1 sum to at most their number
  sum_most : (n : ℕ) → ((k : ℕ) → k < n → f k ≤ 1) → sum n f ≤ n
  unfolding sum
  sum_most zero u = omega arith
  sum_most (suc n) u = omega (arith, sum_most n (λ k h. u k (omega arith)), u n (omega arith))

  -- and to less where one of them is 0
  pub sum_below : (n i : ℕ) → i < n → f i ≡ 0 → ((k : ℕ) → k < n → f k ≤ 1) → sum n f < n
  unfolding sum
  sum_below zero i h z u = absurd (omega arith)
  sum_below (suc n) i h z u =
      eq_or_ne n i
      (λ q. omega (arith, sum_most n (λ k l. u k (omega arith)), ap f q))
      (λ q. omega (arith, sum_below n i (omega arith) z (λ k l. u k (omega arith)), u n (omega arith)))

  module _ (g : ℕ → ℕ) where
    pub sum_ext : (n : ℕ) → ((k : ℕ) → k < n → f k ≡ g k) → sum n f ≡ sum n g
    unfolding sum
    sum_ext zero e = refl
    sum_ext (suc n) e = ap₂ ◌+◌ (sum_ext n (λ k h. e k (omega arith))) (e n (omega arith))

    -- the term at i grows by d, and the others stay
    pub sum_grow : (n i d : ℕ) → i < n → g i ≡ f i + d → ((k : ℕ) → k < n → (k ≡ i → ⊥) → g k ≡ f k) → sum n g ≡ sum n f + d
    unfolding sum
    sum_grow zero i d h e s = absurd (omega arith)
    sum_grow (suc n) i d h e s = go (sum_grow n i d) (sum_ext n)
      where
        go : (i < n → g i ≡ f i + d → ((k : ℕ) → k < n → (k ≡ i → ⊥) → g k ≡ f k) → sum n g ≡ sum n f + d)
            → (((k : ℕ) → k < n → f k ≡ g k) → sum n f ≡ sum n g)
            → sum n g + g n ≡ sum n f + f n + d
        go ih same =
            eq_or_ne n i
            (λ q.
            let b : sum n f ≡ sum n g = same (λ k l. sym (s k (omega arith) (λ z. omega arith))) in
            let w : g n ≡ f n + d = rw q e in
            omega arith)
            (λ q.
            let b : sum n g ≡ sum n f + d = ih (omega arith) e (λ k l z. s k (omega arith) z) in
            let w : g n ≡ f n = s n (omega arith) q in
            omega arith)

-- ---- first

pub first_le : (n : ℕ) (f : ℕ → Bool) → first n f ≤ n
unfolding first
first_le zero f = omega arith
first_le (suc n) f = go (f 0) (first_le n (λ k. f (suc k)))
  where
    go : (b : Bool) → first n (λ k. f (suc k)) ≤ n → cond b 0 (suc (first n (λ k. f (suc k)))) ≤ suc n
    go true ih = omega arith
    go false ih = omega arith

-- f holds of the first
pub first_holds : (n : ℕ) (f : ℕ → Bool) → first n f < n → f (first n f) ≡ true
unfolding first
first_holds zero f h = absurd (omega arith)
first_holds (suc n) f h = go (f 0) refl (first_holds n (λ k. f (suc k))) h
  where
    r : ℕ
    r = first n (λ k. f (suc k))

    go : (b : Bool) → f 0 ≡ b → (r < n → f (suc r) ≡ true) → cond b 0 (suc r) < suc n → f (cond b 0 (suc r)) ≡ true
    go true e ih l = e
    go false e ih l = ih (omega arith)

-- and of none before it
pub first_least : (n : ℕ) (f : ℕ → Bool) (k : ℕ) → k < first n f → f k ≡ false
unfolding first
first_least zero f k h = absurd (omega arith)
first_least (suc n) f k h = go (f 0) refl k (first_least n (λ j. f (suc j))) h
  where
    r : ℕ
    r = first n (λ j. f (suc j))

    go : (b : Bool) → f 0 ≡ b → (k : ℕ) → ((j : ℕ) → j < r → f (suc j) ≡ false) → k < cond b 0 (suc r) → f k ≡ false
    go true e k ih l = absurd (omega arith)
    go false e zero ih l = e
    go false e (suc k) ih l = ih k (omega arith)

-- where f holds of k, and of none before it, k is the first
pub first_is : (n : ℕ) (f : ℕ → Bool) (k : ℕ) → k < n → f k ≡ true → ((j : ℕ) → j < k → f j ≡ false) → first n f ≡ k
first_is n f k h e l =
    le_or_lt (first n f) k
    (λ p.
    eq_or_ne (first n f) k (λ q. q)
    (λ q. absurd (false≢true (sym (l (first n f) (omega arith)) ∙ first_holds n f (omega arith)))))
    (λ p. absurd (false≢true (sym (first_least n f k p) ∙ e)))

-- where f holds of none, the first is n
pub first_none : (n : ℕ) (f : ℕ → Bool) → ((k : ℕ) → k < n → f k ≡ false) → first n f ≡ n
first_none n f l =
    eq_or_ne (first n f) n (λ q. q)
    (λ q.
    let h : first n f < n = omega (arith, first_le n f) in
    absurd (false≢true (sym (l (first n f) h) ∙ first_holds n f h)))
