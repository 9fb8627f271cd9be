-- P11 and P12 of document 01, of bytes: any region that is long enough, and any pieces.
use Rattle.std.specs.Prelude.{ℕ, ◌≤◌, ◌≡◌, Bool, true, false, List, [], ◌∷◌, ◌++◌, length, take, replicate}
use Rattle.lent.specs.Fold.{sum}
use Rattle.shares.specs.Pool.{Pool, fit, others_lack}
use Rattle.region.specs.Layout.{holders, size, pool_of}
use Rattle.region.specs.Holding.{held_by, free_cells}
use Rattle.pool.specs.Calls.{lays_out, laid_out, appends, appended}
use Rattle.pool.specs.Contents.{sized}

-- ---- pieces appended for one holder, one after another

-- the region after all of them
unfoldable pub after : List ℕ → ℕ → List (List ℕ) → List ℕ
after r i [] = r
after r i (xs ∷ xss) = after (appended r i xs) i xss

-- the answer to each
unfoldable pub append_all : List ℕ → ℕ → List (List ℕ) → List Bool
append_all r i [] = []
append_all r i (xs ∷ xss) = appends r i xs ∷ append_all (appended r i xs) i xss

-- ---- P11: share 10 for all, ceiling 96 for holder 0, 10 elsewhere

abbrev pub shares11 : List ℕ
shares11 = replicate holders 10

abbrev pub ceilings11 : List ℕ
ceilings11 = 96 ∷ replicate 7 10

abbrev pub pool11 : Pool
pool11 = pool_of shares11 ceilings11

-- 27 pieces for holder 0 of a region, the others idle
pub record Filled (r : List ℕ) (xss : List (List ℕ)) : Type 0 where
  -- it gets its 26th cell and none at the 27th
  pub told : append_all r 0 xss ≡ replicate 26 true ++ (false ∷ [])
  -- at the 26th 71 are free and 70 lacking, at the 27th 70 and 70
  pub free_26 : free_cells (after r 0 (take 25 xss)) ≡ 71
  pub lacking_26 : others_lack pool11 (held_by (after r 0 (take 25 xss))) 0 ≡ 70
  pub free_27 : free_cells (after r 0 (take 26 xss)) ≡ 70
  pub lacking_27 : others_lack pool11 (held_by (after r 0 (take 26 xss))) 0 ≡ 70
  pub held_27 : held_by (after r 0 (take 26 xss)) 0 ≡ 26

pub record Eleven : Type 0 where
  pub opens : (r : List ℕ) → size ≤ length r → lays_out r shares11 ceilings11 ≡ true
  pub fills : (r : List ℕ) (xss : List (List ℕ)) → size ≤ length r → length xss ≡ 27 → sized xss ≡ true
      → Filled (laid_out r shares11 ceilings11) xss

-- ---- P12: eight shares, n for holder 0 and 12 for each other

abbrev pub shares12 : ℕ → List ℕ
shares12 n = n ∷ replicate 7 12

abbrev pub ceilings12 : List ℕ
ceilings12 = replicate holders 96

abbrev pub pool12 : ℕ → Pool
pool12 n = pool_of (shares12 n) ceilings12

pub record Twelve : Type 0 where
  -- shares adding to 96 open
  pub adds_96 : sum holders (pool12 12).share ≡ 96
  pub passes : fit (pool12 12) ≡ true
  pub opens : (r : List ℕ) → size ≤ length r → lays_out r (shares12 12) ceilings12 ≡ true
  -- 97 is refused
  pub adds_97 : sum holders (pool12 13).share ≡ 97
  pub fails : fit (pool12 13) ≡ false
  pub refused : (r : List ℕ) → size ≤ length r → lays_out r (shares12 13) ceilings12 ≡ false
