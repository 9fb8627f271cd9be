-- The LRC of bytes: the exclusive or of them all.
use Rattle.std.specs.Prelude.{ℕ, List, [], ◌∷◌}
use Rattle.std.specs.Int.Bits.{bit_xor}

unfoldable pub lrc_of : List ℕ → ℕ
lrc_of [] = 0
lrc_of (x ∷ xs) = bit_xor x (lrc_of xs)
