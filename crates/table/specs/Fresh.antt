-- A fresh table: all 96 cells unowned and all slots empty. Every byte is written.
use Rattle.std.specs.Prelude.{ℕ, ◌-◌, Bool, cond, ◌&&◌, List, [], ◌∷◌, ◌++◌, replicate}
use Rattle.lent.specs.Place.{within, splice}
use Rattle.shares.specs.Pool.{fit}
use Rattle.region.specs.Layout.{pool_of}
use Rattle.pool.specs.Calls as pool
use Rattle.table.specs.Layout.{table_size, mark, version, slots_at}

-- the mark, the version, and three bytes that are not used
abbrev pub head : List ℕ
head = mark ++ (0 ∷ version ∷ 0 ∷ 0 ∷ 0 ∷ [])

-- an entry of zeros is that of an empty slot
unfoldable pub fresh : List ℕ → List ℕ → List ℕ
fresh shares ceilings = head ++ (pool.fresh shares ceilings ++ replicate (table_size - slots_at) 0)

-- whether a table is laid out: it is there, and shares and ceilings pass 2
unfoldable pub lays_out : List ℕ → List ℕ → List ℕ → Bool
lays_out t shares ceilings = within t 0 table_size && fit (pool_of shares ceilings)

unfoldable pub laid_out : List ℕ → List ℕ → List ℕ → List ℕ
laid_out t shares ceilings = cond (lays_out t shares ceilings) (splice t 0 (fresh shares ceilings)) t
