-- What a region shows: the pool as the paper has it.
use Rattle.std.specs.Prelude.{ℕ, zero, suc, cond, List, [], ◌∷◌, ◌++◌, ltb}
use Rattle.region.specs.Layout.{holders, held, listed, piece, pool_in}
use Rattle.pool.specs.Contents.{Contents}

-- the first n pieces of holder i
unfoldable pub pieces : List ℕ → ℕ → ℕ → List (List ℕ)
pieces r i zero = []
pieces r i (suc k) = pieces r i k ++ (piece r (listed r i k) ∷ [])

-- beyond the last holder there is nothing
unfoldable pub pieces_of : List ℕ → ℕ → List (List ℕ)
pieces_of r i = cond (ltb i holders) (pieces r i (held r i)) []

unfoldable pub shown : List ℕ → Contents
shown r = record { limits = pool_in r; pieces = pieces_of r }
