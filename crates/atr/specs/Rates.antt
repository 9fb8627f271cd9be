-- "Reading an ATR" of document 01: the F and D that TA1 offers, by nibble, absent 372 and 1, a reserved code as 0.
use Rattle.std.specs.Prelude.{ℕ, ◌-◌, ◌*◌, ◌^◌, cond, List, [], ◌∷◌, eqb, leb, get_or}
use Rattle.atr.specs.Walk.{high, low, present}

-- F by high nibble 0 to 15
abbrev pub fs : List ℕ
fs = 372 ∷ 372 ∷ 558 ∷ 744 ∷ 1116 ∷ 1488 ∷ 1860 ∷ 0 ∷ 0 ∷ 512 ∷ 768 ∷ 1024 ∷ 1536 ∷ 2048 ∷ 0 ∷ 0 ∷ []

-- D by low nibble 0 to 15
abbrev pub ds : List ℕ
ds = 0 ∷ 1 ∷ 2 ∷ 4 ∷ 8 ∷ 16 ∷ 32 ∷ 64 ∷ 12 ∷ 20 ∷ 0 ∷ 0 ∷ 0 ∷ 0 ∷ 0 ∷ 0 ∷ []

-- ---- the standard's rule for the rows, code by code

-- 372 from code 1 on and 512 from code 9 on, times 1, 1½, 2, 3, 4 and (of 372 alone) 5; code 0 is 372 too
abbrev pub halves : List ℕ
halves = 2 ∷ 3 ∷ 4 ∷ 6 ∷ 8 ∷ 10 ∷ []

abbrev pub f_rule : (code : ℕ) → ℕ
f_rule k =
    cond (eqb k 0) 372
    (cond (leb k 8) (186 * get_or halves (k - 1) 0)
    (cond (leb k 13) (256 * get_or halves (k - 9) 0) 0))

-- the powers of 2 from code 1 on to 64, then 12 and 20
abbrev pub d_rule : (code : ℕ) → ℕ
d_rule k =
    cond (eqb k 0) 0
    (cond (leb k 7) (2 ^ (k - 1))
    (cond (eqb k 8) 12 (cond (eqb k 9) 20 0)))

-- ---- what TA1 offers

unfoldable pub f_offered : (ta1 : ℕ) → ℕ
f_offered ta1 = cond (present ta1) (get_or fs (high ta1) 0) 372

unfoldable pub d_offered : (ta1 : ℕ) → ℕ
d_offered ta1 = cond (present ta1) (get_or ds (low ta1) 0) 1
