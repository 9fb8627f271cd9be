-- The pool as the paper has it: shares and ceilings, and of each holder its pieces in order. No cell number, no place.
use Rattle.std.specs.Prelude.{ℕ, Bool, true, cond, ◌&&◌, List, [], ◌∷◌, ◌++◌, eqb, ltb, length}
use Rattle.shares.specs.Pool.{Pool, granted}
use Rattle.region.specs.Sound.{piece_size}

pub record Contents : Type 0 where
  pub limits : Pool
  pub pieces : ℕ → List (List ℕ)

-- nobody has a piece
abbrev pub empty : Pool → Contents
empty K = record { limits = K; pieces = λ j. [] }

-- cells held: one for each piece
abbrev pub holding : Contents → ℕ → ℕ
holding v j = length (v.pieces j)

-- i is a holder, and the rule grants it a cell
unfoldable pub granted_in : Contents → ℕ → Bool
granted_in v i = ltb i v.limits.holders && granted v.limits (holding v) i

-- v with ps for holder i's pieces
abbrev pub having : Contents → ℕ → List (List ℕ) → Contents
having v i ps = record { limits = v.limits; pieces = λ j. cond (eqb j i) ps (v.pieces j) }

-- whether a piece is taken
unfoldable pub takes_piece : Contents → ℕ → List ℕ → Bool
takes_piece v i xs = piece_size (length xs) && granted_in v i

-- a piece that is taken stands at the end of its holder's
unfoldable pub append_to : Contents → ℕ → List ℕ → Contents
append_to v i xs = cond (takes_piece v i xs) (having v i (v.pieces i ++ (xs ∷ []))) v

unfoldable pub release_of : Contents → ℕ → Contents
release_of v i = having v i []

-- the pieces joined
unfoldable pub join : List (List ℕ) → List ℕ
join [] = []
join (p ∷ ps) = p ++ join ps

-- each of them has 1 to 254 bytes
unfoldable pub sized : List (List ℕ) → Bool
sized [] = true
sized (p ∷ ps) = piece_size (length p) && sized ps
