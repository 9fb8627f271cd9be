-- Numbers as bytes, high byte first, of any width.
use Rattle.std.specs.Prelude.{ℕ, zero, suc, ◌+◌, ◌*◌, ◌/◌, ◌%◌, ◌^◌, cond, List, [], ◌∷◌, length}
use Rattle.lent.specs.Place.{within, window}

-- the number that bytes make
unfoldable pub number_of : List ℕ → ℕ
number_of [] = 0
number_of (b ∷ bs) = b * 256 ^ length bs + number_of bs

-- the n bytes of a number
unfoldable pub bytes_of : ℕ → ℕ → List ℕ
bytes_of zero v = []
bytes_of (suc n) v = v / 256 ^ n % 256 ∷ bytes_of n v

-- the number of the n bytes of t from place a; 0 where they do not lie within it
unfoldable pub number_at : List ℕ → ℕ → ℕ → ℕ
number_at t a n = cond (within t a n) (number_of (window t a n)) 0
