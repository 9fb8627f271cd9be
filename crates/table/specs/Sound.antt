-- When a table is sound: docs/LAYOUT.md's rules, for any bytes.
use Rattle.std.specs.Prelude.{ℕ, ◌+◌, Bool, ◌&&◌, List, eqb, leb, length, get_or}
use Rattle.lent.specs.Number.{number_at}
use Rattle.lent.specs.Fold.{all}
use Rattle.region.specs.Layout.{holders}
use Rattle.region.specs.Sound as pool
use Rattle.region.specs.Holding.{held_by}
use Rattle.slot.specs.Fit.{fits}
use Rattle.entry.specs.Entry.{slot_in, formed}
use Rattle.table.specs.Layout.{table_size, mark_at, mark, version_at, version, pool_in, entry_in}

-- byte k of the mark
abbrev marked : List ℕ → ℕ → Bool
marked t k = eqb (get_or t (mark_at + k) 0) (get_or mark k 0)

-- the mark and the version
unfoldable pub headed : List ℕ → Bool
headed t = marked t 0 && (marked t 1 && (marked t 2 && eqb (number_at t version_at 2) version))

-- slot i's own part: its entry names a slot, and that fits the cells that it holds
unfoldable pub slot_sound : List ℕ → ℕ → Bool
slot_sound t i = formed (entry_in t i) && fits (slot_in (entry_in t i)) (held_by (pool_in t) i)

-- The table is there; mark and version; the pool's region is sound (shares and ceilings pass 2, no slot over its ceiling,
-- free cells for all that is lacking); and each slot's own part.
unfoldable pub sound : List ℕ → Bool
sound t = leb table_size (length t) && (headed t && (pool.sound (pool_in t) && all holders (slot_sound t)))
