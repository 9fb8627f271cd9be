-- Lent bytes are a list. `window` reads a part of it at a place, `splice` writes one.
use Rattle.std.specs.Prelude.{ℕ, ◌+◌, Bool, cond, List, ◌++◌, leb, length, take, drop}

-- whether n bytes from place a lie within t
abbrev pub within : List ℕ → ℕ → ℕ → Bool
within t a n = leb (a + n) (length t)

-- the n bytes of t from place a; fewer where t ends before
unfoldable pub window : List ℕ → ℕ → ℕ → List ℕ
window t a n = take n (drop a t)

-- t with xs over it from place a; t itself where xs does not lie within it
unfoldable pub splice : List ℕ → ℕ → List ℕ → List ℕ
splice t a xs = cond (within t a (length xs)) (take a t ++ xs ++ drop (a + length xs) t) t
