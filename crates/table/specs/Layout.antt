-- The layout of the table, byte by byte as in docs/LAYOUT.md: what stands where, and the table with a part written.
use Rattle.std.specs.Prelude.{ℕ, ◌+◌, ◌*◌, min, cond, ◌&&◌, List, [], ◌∷◌, ltb, leb, length}
use Rattle.lent.specs.Place.{window, splice}
use Rattle.region.specs.Layout.{holders, size}
use Rattle.slot.specs.declared.parts.Slot.{Slot}
use Rattle.entry.specs.Layout.{entry_size}
use Rattle.entry.specs.Entry.{whole_in, slot_bytes}

abbrev pub table_size : ℕ
table_size = 32768

-- the mark has three bytes, TBL, and the version two
abbrev pub mark_at : ℕ
mark_at = 0

abbrev pub mark : List ℕ
mark = 0x54 ∷ 0x42 ∷ 0x4C ∷ []

abbrev pub version_at : ℕ
version_at = 3

abbrev pub version : ℕ
version = 1

abbrev pub pool_at : ℕ
pool_at = 8

-- right behind the pool's region
abbrev pub slots_at : ℕ
slots_at = pool_at + size

-- bytes for a slot
abbrev pub slot_size : ℕ
slot_size = 320

-- a slot's entry is at the front of its bytes, its command here
abbrev pub command_at : ℕ
command_at = 32

abbrev pub command_size : ℕ
command_size = 261

abbrev pub slot_at : ℕ → ℕ
slot_at i = slots_at + i * slot_size

-- ---- what stands there

unfoldable pub pool_in : List ℕ → List ℕ
pool_in t = window t pool_at size

-- beyond the last slot there is nothing
unfoldable pub entry_in : List ℕ → ℕ → List ℕ
entry_in t i = cond (ltb i holders) (window t (slot_at i) entry_size) []

-- the command that is kept: as long as the entry says, and at most 261 bytes
unfoldable pub command_in : List ℕ → ℕ → List ℕ
command_in t i = cond (ltb i holders) (window t (slot_at i + command_at) (min command_size (whole_in (entry_in t i)))) []

-- ---- a part written, the rest as it was

unfoldable pub with_pool : List ℕ → List ℕ → List ℕ
with_pool t q = splice t pool_at q

unfoldable pub with_slot : List ℕ → ℕ → Slot → List ℕ
with_slot t i x = cond (ltb i holders) (splice t (slot_at i) (slot_bytes x)) t

-- a longer command is not written
unfoldable pub with_command : List ℕ → ℕ → List ℕ → List ℕ
with_command t i bs = cond (ltb i holders && leb (length bs) command_size) (splice t (slot_at i + command_at) bs) t

-- A call's work on slot i: the pool's region, the command that it keeps (none: the old one stays), and its entry.
unfoldable pub changed : List ℕ → ℕ → (pool command : List ℕ) → Slot → List ℕ
changed t i q bs x = with_slot (with_command (with_pool t q) i bs) i x
