-- `all` over a range, as the fold over the numbers below its end. Assumes nothing.
use mathlib.Core.Path.{◌≡◌, refl, sym, ap, ap₂, ◌∙◌}
use mathlib.Core.Bool.{Bool, true, false, ◌&&◌}
use Prim.Native.Nat.{ℕ, zero, suc, ◌+◌}
use native.Mathlib.Omega.{arith}
use Rattle.std.specs.List.{list_all, range_with_len}
use Rattle.lent.specs.Fold.{all}

and_assoc : (a b c : Bool) → (a && b) && c ≡ a && (b && c)
and_assoc true b c = refl
and_assoc false b c = refl

and_true : (a : Bool) → true && a ≡ a && true
and_true true = refl
and_true false = refl

-- the first number apart
all_first : (g : ℕ → Bool) (n : ℕ) → all (suc n) g ≡ g 0 && all n (λ k. g (suc k))
unfolding all
all_first g zero = and_true (g 0)
all_first g (suc n) = ap (λ b. b && g (suc n)) (all_first g n) ∙ and_assoc (g 0) (all n (λ k. g (suc k))) (g (suc n))

-- f from a on is g from 0 on
all_from : (f g : ℕ → Bool) (n a : ℕ) → ((k : ℕ) → f (a + k) ≡ g k) → list_all f (range_with_len a n) ≡ all n g
unfolding all
all_from f g zero a e = refl
all_from f g (suc n) a e =
    ap₂ ◌&&◌ (ap f (omega arith) ∙ e 0) (all_from f (λ k. g (suc k)) n (a + 1) (λ k. ap f (omega arith) ∙ e (suc k)))
    ∙ sym (all_first g n)

pub all_range : (f : ℕ → Bool) (n : ℕ) → list_all f (range_with_len 0 n) ≡ all n f
all_range f n = all_from f f n 0 (λ k. ap f (omega arith))
