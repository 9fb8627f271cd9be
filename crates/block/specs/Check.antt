-- The check that ends a block: how many bytes it takes, what they are, and when they are right.
-- It is the LRC. Reader and builder, and all laws above them, speak of the check and not of the LRC.
use Rattle.std.specs.Prelude.{ℕ, Bool, List, [], ◌∷◌, eqb}
use Rattle.block.specs.Lrc.{lrc_of}

abbrev pub check_length : ℕ
check_length = 1

-- the check of the bytes before it
unfoldable pub check_of : List ℕ → List ℕ
check_of xs = lrc_of xs ∷ []

-- LRC makes the exclusive or of the whole block 0
unfoldable pub check_right : List ℕ → Bool
check_right s = eqb (lrc_of s) 0
