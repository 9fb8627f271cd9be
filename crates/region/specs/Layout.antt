-- The layout of the pool's region, byte by byte as in docs/LAYOUT.md.
use Rattle.std.specs.Prelude.{ℕ, ◌+◌, ◌*◌, List, get_or}
use Rattle.lent.specs.Place.{window}
use Rattle.shares.specs.Pool.{Pool}

abbrev pub holders : ℕ
holders = 8

abbrev pub cells : ℕ
cells = 96

-- bytes in a cell
abbrev pub cell_size : ℕ
cell_size = 254

-- the owner of a cell that nobody owns
abbrev pub unowned : ℕ
unowned = 255

-- ---- where each part starts: right behind the one before

abbrev pub shares_at : ℕ
shares_at = 0

abbrev pub ceilings_at : ℕ
ceilings_at = shares_at + holders

abbrev pub held_at : ℕ
held_at = ceilings_at + holders

abbrev pub owners_at : ℕ
owners_at = held_at + holders

abbrev pub places_at : ℕ
places_at = owners_at + cells

abbrev pub lengths_at : ℕ
lengths_at = places_at + cells

abbrev pub lists_at : ℕ
lists_at = lengths_at + cells

abbrev pub cells_at : ℕ
cells_at = lists_at + holders * cells

-- bytes in the region
abbrev pub size : ℕ
size = cells_at + cells * cell_size

-- ---- what stands there

-- how many cells holder i holds
abbrev pub held : List ℕ → ℕ → ℕ
held r i = get_or r (held_at + i) 0

-- the holder that owns cell c
abbrev pub owner : List ℕ → ℕ → ℕ
owner r c = get_or r (owners_at + c) 0

-- which piece of its owner's response cell c is
abbrev pub place : List ℕ → ℕ → ℕ
place r c = get_or r (places_at + c) 0

-- how many bytes are in cell c
abbrev pub len : List ℕ → ℕ → ℕ
len r c = get_or r (lengths_at + c) 0

-- the cell of holder i's piece k
abbrev pub listed : List ℕ → ℕ → ℕ → ℕ
listed r i k = get_or r (lists_at + (i * cells + k)) 0

-- the bytes in cell c
abbrev pub piece : List ℕ → ℕ → List ℕ
piece r c = window r (cells_at + c * cell_size) (len r c)

-- the pool of document 01 with these shares and ceilings
abbrev pub pool_of : List ℕ → List ℕ → Pool
pool_of shares ceilings = record { holders = holders; cells = cells; share = λ i. get_or shares i 0; ceiling = λ i. get_or ceilings i 0 }

-- the pool whose shares and ceilings stand in the region
abbrev pub pool_in : List ℕ → Pool
pool_in r = pool_of (window r shares_at holders) (window r ceilings_at holders)
