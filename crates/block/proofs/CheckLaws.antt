-- Laws of the check, all that the reader's and the builder's laws cite of it. Assumes nothing.
use mathlib.Core.Path.{◌≡◌, refl, ap}
use mathlib.Core.Bool.{true}
use mathlib.Core.List.{List, [], ◌∷◌, ◌++◌}
use Prim.Native.Nat.{ℕ}
use native.Mathlib.Omega.{arith}
use lib.ListN.{length}
use borrow.Author.Tests.{eq-eqb, eqb-true}
use Rattle.block.specs.Lrc.{lrc_of}
use Rattle.block.specs.Check.{check_length, check_of, check_right}
use Rattle.block.proofs.LrcLaws.{lrc_closed, lrc_only}

pub length_check : (xs : List ℕ) → length (check_of xs) ≡ check_length
unfolding check_of
length_check xs = refl

-- bytes with their check are right
pub check_closed : (xs : List ℕ) → check_right (xs ++ check_of xs) ≡ true
unfolding check_of check_right
check_closed xs = eq-eqb (lrc_of (xs ++ lrc_of xs ∷ [])) 0 (lrc_closed xs)

-- and with no other bytes of its length
pub check_only : (xs ys : List ℕ) → length ys ≡ check_length → check_right (xs ++ ys) ≡ true → ys ≡ check_of xs
unfolding check_of check_right
check_only xs [] e h = absurd (omega arith)
check_only xs (y ∷ z ∷ ys) e h = absurd (omega arith)
check_only xs (y ∷ []) e h = ap (λ (k : ℕ). k ∷ []) (lrc_only xs y (eqb-true (lrc_of (xs ++ y ∷ [])) 0 h))
