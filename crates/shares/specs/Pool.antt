-- The pool: holders with a share and a ceiling each, and the cells that each holds. Numbers of holders and cells are open.
use Rattle.std.specs.Prelude.{ℕ, ◌-◌, ◌≤◌, ◌<◌, Bool, true, false, cond, ◌&&◌, eqb, ltb, leb}
use Rattle.lent.specs.Fold.{all, sum}

pub record Pool : Type 0 where
  pub holders : ℕ
  pub cells : ℕ
  pub share : ℕ → ℕ
  pub ceiling : ℕ → ℕ

-- ---- what open asks (refusal 2): no share above its ceiling, no ceiling above the cells, shares adding to no more than the cells

unfoldable pub limit : Pool → ℕ → Bool
limit K i = leb (K.share i) (K.ceiling i) && leb (K.ceiling i) K.cells

unfoldable pub fit : Pool → Bool
fit K = all K.holders (limit K) && leb (sum K.holders K.share) K.cells

-- the same as facts
pub record Fit (K : Pool) : Type 0 where
  pub ordered : (i : ℕ) → i < K.holders → K.share i ≤ K.ceiling i
  pub low : (i : ℕ) → i < K.holders → K.ceiling i ≤ K.cells
  pub shared : sum K.holders K.share ≤ K.cells

-- ---- Shares; `h i` is what holder i holds

-- free cells: all cells less all that are held
abbrev pub free : Pool → (ℕ → ℕ) → ℕ
free K h = K.cells - sum K.holders h

-- what a holder lacks: share minus held where that is positive
abbrev pub lack : Pool → (ℕ → ℕ) → ℕ → ℕ
lack K h i = K.share i - h i

-- f at every holder but i
abbrev pub others : ℕ → (ℕ → ℕ) → ℕ → ℕ
others i f j = cond (eqb j i) 0 (f j)

-- what the other holders together lack
abbrev pub others_lack : Pool → (ℕ → ℕ) → ℕ → ℕ
others_lack K h i = sum K.holders (others i (lack K h))

-- below the share a cell; at the ceiling none; between, exactly when the free cells outnumber what the others lack
unfoldable pub given : ℕ → ℕ → ℕ → ℕ → ℕ → Bool
given held share ceiling lacking free = cond (ltb held share) true (cond (ltb held ceiling) (ltb lacking free) false)

unfoldable pub granted : Pool → (ℕ → ℕ) → ℕ → Bool
granted K h i = given (h i) (K.share i) (K.ceiling i) (others_lack K h i) (free K h)

-- ---- sound: no holder over its ceiling, no more held than there is, and free cells for all that is lacking

unfoldable pub sound : Pool → (ℕ → ℕ) → Bool
sound K h =
    all K.holders (λ i. leb (h i) (K.ceiling i))
    && (leb (sum K.holders h) K.cells && leb (sum K.holders (lack K h)) (free K h))

-- the same as facts
pub record Sound (K : Pool) (h : ℕ → ℕ) : Type 0 where
  pub under : (i : ℕ) → i < K.holders → h i ≤ K.ceiling i
  pub within : sum K.holders h ≤ K.cells
  pub enough : sum K.holders (lack K h) ≤ free K h
