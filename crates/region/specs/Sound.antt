-- When a region is sound: docs/LAYOUT.md's rules, as a test and as facts.
use Rattle.std.specs.Prelude.{ℕ, ◌≤◌, ◌<◌, ◌≡◌, Bool, cond, ◌&&◌, List, eqb, ltb, leb, length}
use Rattle.lent.specs.Fold.{all, sum}
use Rattle.shares.specs.Pool as pool
use Rattle.region.specs.Layout.{holders, cells, cell_size, unowned, size, held, owner, place, len, listed, pool_in}

-- 1 for a cell that nobody owns
abbrev pub free_at : List ℕ → ℕ → ℕ
free_at r c = cond (eqb (owner r c) unowned) 1 0

-- a piece has 1 to 254 bytes
abbrev pub piece_size : ℕ → Bool
piece_size n = ltb 0 n && leb n cell_size

-- ---- the test

-- cell c is holder i's piece k
abbrev pub is_piece : List ℕ → ℕ → ℕ → ℕ → Bool
is_piece r i k c = ltb c cells && (eqb (owner r c) i && (eqb (place r c) k && piece_size (len r c)))

-- the k-th cell of holder i's list is its piece k
unfoldable pub listed_well : List ℕ → ℕ → ℕ → Bool
listed_well r i k = is_piece r i k (listed r i k)

-- so are all that it holds
unfoldable pub list_well : List ℕ → ℕ → Bool
list_well r i = all (held r i) (listed_well r i)

-- as many cells are unowned as are free
unfoldable pub counted : List ℕ → Bool
counted r = eqb (sum cells (free_at r)) (pool.free (pool_in r) (held r))

-- the rules of a region that is there
unfoldable pub sound_in : List ℕ → Bool
sound_in r = pool.fit (pool_in r) && (pool.sound (pool_in r) (held r) && (counted r && all holders (list_well r)))

-- the region is there, and follows them
unfoldable pub sound : List ℕ → Bool
sound r = leb size (length r) && sound_in r

-- ---- the facts

-- cell c is holder i's piece k
pub record Piece (r : List ℕ) (i k c : ℕ) : Type 0 where
  pub low : c < cells
  pub owned : owner r c ≡ i
  pub placed : place r c ≡ k
  pub some : 0 < len r c
  pub short : len r c ≤ cell_size

pub record Good (r : List ℕ) : Type 0 where
  -- the region is there
  pub long : size ≤ length r
  -- shares and ceilings pass 2
  pub fit : pool.Fit (pool_in r)
  -- no holder over its ceiling, no more held than there is, and free cells for all that is lacking
  pub holdings : pool.Sound (pool_in r) (held r)
  -- as many cells are unowned as are free
  pub counted : sum cells (free_at r) ≡ pool.free (pool_in r) (held r)
  -- each holder's list names its pieces, in order
  pub pieces : (i k : ℕ) → i < holders → k < held r i → Piece r i k (listed r i k)
