-- The F and D tables follow the standard's rule: for each table one test, which is computed over the whole of it.
-- Assumes nothing.
use mathlib.Core.Path.{◌≡◌, refl}
use mathlib.Core.Bool.{true}
use Prim.Native.Nat.{ℕ, ◌<◌}
use lib.Dec.{eqb}
use lib.ListN.{get_or}
use borrow.Author.Tests.{eqb-true}
use Rattle.lent.specs.Fold.{all}
use Rattle.lent.proofs.FoldLaws.{all_at}
use Rattle.atr.specs.Rates.{fs, ds, f_rule, d_rule}

-- what a test says of all 16 codes holds of each
same_at : (f g : ℕ → ℕ) → all 16 (λ k. eqb (f k) (g k)) ≡ true → (k : ℕ) → k < 16 → f k ≡ g k
same_at f g same k h = eqb-true (f k) (g k) (all_at (λ k. eqb (f k) (g k)) 16 k same h)

pub f_ruled : (k : ℕ) → k < 16 → get_or fs k 0 ≡ f_rule k
unfolding all
f_ruled = same_at (λ k. get_or fs k 0) f_rule refl

pub d_ruled : (k : ℕ) → k < 16 → get_or ds k 0 ≡ d_rule k
unfolding all
d_ruled = same_at (λ k. get_or ds k 0) d_rule refl
