-- A part of the bytes added up item by item, as a fold over its places. Assumes nothing.
use mathlib.Core.Path.{◌≡◌, refl, ap, ap₂, ◌∙◌}
use mathlib.Core.List.{List}
use Prim.Native.Nat.{ℕ, zero, suc, ◌+◌, ◌≤◌}
use native.Mathlib.Numerals.{add-one}
use native.Mathlib.Omega.{arith}
use lib.ListN.{length, get_or, take, drop}
use Rattle.std.specs.List.{sum_by}
use Rattle.std.proofs.Common.{length-drop}
use Rattle.std.proofs.lemmas.List.{get_or-drop}
use Rattle.std.proofs.lemmas.List.Sums.{sum_by_more}
use Rattle.lent.specs.Fold.{sum}

module _ (h : ℕ → ℕ) (r : List ℕ) (a : ℕ) where
  -- h of each of the n bytes from place a
  pub sum_part : (n : ℕ) → a + n ≤ length r → sum_by h (take n (drop a r)) ≡ sum n (λ i. h (get_or r (a + i) 0))
  unfolding sum
  sum_part zero l = refl
  sum_part (suc n) l =
      rw (← add-one n) (sum_by_more h (drop a r) n 0 (omega (arith, length-drop a r)) ∙ ap₂ ◌+◌ (sum_part n (omega arith)) (ap h (get_or-drop a r n 0)))
