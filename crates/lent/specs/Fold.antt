-- Folds over the numbers below n.
use Rattle.std.specs.Prelude.{ℕ, zero, suc, ◌+◌, Bool, true, ◌&&◌, cond}

-- f holds of every number below n
unfoldable pub all : ℕ → (ℕ → Bool) → Bool
all zero f = true
all (suc n) f = all n f && f n

-- f 0 + .. + f (n - 1)
unfoldable pub sum : ℕ → (ℕ → ℕ) → ℕ
sum zero f = 0
sum (suc n) f = sum n f + f n

-- the least number below n of which f holds; n where there is none
unfoldable pub first : ℕ → (ℕ → Bool) → ℕ
first zero f = 0
first (suc n) f = cond (f 0) 0 (suc (first n (λ k. f (suc k))))
