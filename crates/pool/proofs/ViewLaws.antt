-- The view goes by the counts, and by the cells that the lists name. Assumes nothing.
use mathlib.Core.Path.{◌≡◌, refl, ap₂, ◌∙◌}
use mathlib.Core.List.{List, [], ◌∷◌, ◌++◌}
use Prim.Native.Nat.{ℕ, zero, suc, ◌<◌}
use native.Mathlib.Omega.{arith}
use lib.ListN.{length, length-append}
use Rattle.region.specs.Layout.{listed, piece}
use Rattle.pool.specs.View.{pieces}

-- the same bytes in the cells that are listed, the same pieces
pub pieces_ext : (r q : List ℕ) (i n : ℕ) → ((k : ℕ) → k < n → piece q (listed q i k) ≡ piece r (listed r i k)) → pieces q i n ≡ pieces r i n
unfolding pieces
pieces_ext r q i zero e = refl
pieces_ext r q i (suc n) e =
    ap₂ (λ (a : List (List ℕ)) (b : List ℕ). a ++ (b ∷ [])) (pieces_ext r q i n (λ k h. e k (omega arith))) (e n (omega arith))

-- as many pieces as are asked for
pub pieces-length : (r : List ℕ) (i n : ℕ) → length (pieces r i n) ≡ n
unfolding pieces
pieces-length r i zero = refl
pieces-length r i (suc n) = length-append (pieces r i n) (piece r (listed r i n) ∷ []) ∙ omega (arith, pieces-length r i n)
