-- What each call answers, and every byte that it leaves, for any bytes. A region that is too short, a holder beyond the
-- last and a piece of no or more than 254 bytes change nothing.
use Rattle.std.specs.Prelude.{ℕ, zero, suc, ◌+◌, ◌*◌, ◌-◌, Bool, cond, ◌&&◌, List, [], ◌++◌, eqb, ltb, leb, length, set, replicate}
use Rattle.lent.specs.Place.{within, splice}
use Rattle.lent.specs.Fold.{first}
use Rattle.shares.specs.Pool.{fit}
use Rattle.region.specs.Layout.{holders, cells, cell_size, unowned, held_at, owners_at, places_at, lengths_at, lists_at, cells_at, size, held, owner, len, listed, piece, pool_of}
use Rattle.region.specs.Sound.{piece_size}
use Rattle.region.specs.Holding.{inside, granted}

-- ---- a fresh region

-- nothing is held and nobody owns a cell; what is not looked at is 0
unfoldable pub fresh : List ℕ → List ℕ → List ℕ
fresh shares ceilings =
    shares ++ ceilings ++ replicate holders 0 ++ replicate cells unowned ++ replicate (size - places_at) 0

unfoldable pub lays_out : List ℕ → List ℕ → List ℕ → Bool
lays_out r shares ceilings = within r 0 size && fit (pool_of shares ceilings)

unfoldable pub laid_out : List ℕ → List ℕ → List ℕ → List ℕ
laid_out r shares ceilings = cond (lays_out r shares ceilings) (splice r 0 (fresh shares ceilings)) r

-- ---- append

-- the free cell that is taken is the lowest; where there is none, 96
unfoldable pub lowest : List ℕ → ℕ
lowest r = first cells (λ c. eqb (owner r c) unowned)

-- cell c is holder i's piece n, the last that it holds, with the bytes xs
unfoldable pub stored : List ℕ → ℕ → ℕ → ℕ → List ℕ → List ℕ
stored r i n c xs =
    let filled = splice r (cells_at + c * cell_size) xs in
    let owned = set filled (owners_at + c) i in
    let placed = set owned (places_at + c) n in
    let measured = set placed (lengths_at + c) (length xs) in
    let entered = set measured (lists_at + (i * cells + n)) c in
    set entered (held_at + i) (n + 1)

-- a cell is taken where one is granted (in a sound region one is then free)
unfoldable pub takes : List ℕ → ℕ → Bool
takes r i = granted r i && ltb (lowest r) cells

unfoldable pub appends : List ℕ → ℕ → List ℕ → Bool
appends r i xs = piece_size (length xs) && takes r i

unfoldable pub appended : List ℕ → ℕ → List ℕ → List ℕ
appended r i xs = cond (appends r i xs) (stored r i (held r i) (lowest r) xs) r

-- ---- release

-- nobody owns the first n cells of holder i's list
unfoldable pub freed : List ℕ → ℕ → ℕ → List ℕ
freed r i zero = r
freed r i (suc k) = set (freed r i k) (owners_at + listed r i k) unowned

unfoldable pub released : List ℕ → ℕ → List ℕ
released r i = cond (inside r i) (set (freed r i (held r i)) (held_at + i) 0) r

-- ---- the response

-- the bytes of any cell number: none where it or the cell's length is out of range
unfoldable pub bytes_in : List ℕ → ℕ → List ℕ
bytes_in r c = cond (ltb c cells && leb (len r c) cell_size) (piece r c) []

-- the first n pieces of holder i joined
unfoldable pub joined : List ℕ → ℕ → ℕ → List ℕ
joined r i zero = []
joined r i (suc k) = joined r i k ++ bytes_in r (listed r i k)

unfoldable pub response : List ℕ → ℕ → List ℕ
response r i = cond (inside r i) (joined r i (held r i)) []

-- the response at the front of an output, the rest as it was; an output that is shorter stays
unfoldable pub copied : List ℕ → ℕ → List ℕ → List ℕ
copied r i out = splice out 0 (response r i)
