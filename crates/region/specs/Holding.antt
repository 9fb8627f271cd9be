-- What is asked of a region by number: any bytes, any number of a holder. Where there is no such holder, or no region, it
-- holds nothing and gets nothing.
use Rattle.std.specs.Prelude.{ℕ, Bool, cond, ◌&&◌, List, ltb, leb, length}
use Rattle.shares.specs.Pool as pool
use Rattle.region.specs.Layout.{holders, size, held, pool_in}

-- there is a region, and i is one of its holders
unfoldable pub inside : List ℕ → ℕ → Bool
inside r i = leb size (length r) && ltb i holders

-- cells held
unfoldable pub held_by : List ℕ → ℕ → ℕ
held_by r i = cond (inside r i) (held r i) 0

-- free cells
unfoldable pub free_cells : List ℕ → ℕ
free_cells r = cond (leb size (length r)) (pool.free (pool_in r) (held r)) 0

-- what the rule says to the numbers that stand in the region
unfoldable pub rule_grants : List ℕ → ℕ → Bool
rule_grants r i = pool.granted (pool_in r) (held r) i

unfoldable pub granted : List ℕ → ℕ → Bool
granted r i = inside r i && rule_grants r i
