-- What is promised of a region and of what it shows. Layers above cite this record, and never the layout.
use Rattle.std.specs.Prelude.{ℕ, ◌≤◌, ◌≡◌, true, false, List, length}
use Rattle.shares.specs.Pool.{Fit, Sound, free, fit}
use Rattle.lent.specs.Place.{splice}
use Rattle.region.specs.Layout.{holders, cells, size, pool_of}
use Rattle.region.specs.Sound.{sound}
use Rattle.region.specs.Holding.{held_by, free_cells, granted}
use Rattle.pool.specs.Calls.{lays_out, laid_out, appends, appended, released, response, copied}
use Rattle.pool.specs.Contents.{empty, holding, granted_in, takes_piece, append_to, release_of, join, sized}
use Rattle.pool.specs.View.{shown}

-- a region laid out for shares and ceilings is sound and shows nothing held
pub record Fresh (r shares ceilings : List ℕ) : Type 0 where
  pub sound : sound (laid_out r shares ceilings) ≡ true
  pub shows : shown (laid_out r shares ceilings) ≡ empty (pool_of shares ceilings)

-- of a sound region:
pub record Shows (r : List ℕ) : Type 0 where
  -- eight holders, 96 cells
  pub many : (shown r).limits.holders ≡ holders
  pub all : (shown r).limits.cells ≡ cells
  -- shares and ceilings pass 2, holdings are sound, pieces have 1 to 254 bytes
  pub fit : Fit (shown r).limits
  pub holdings : Sound (shown r).limits (holding (shown r))
  pub sizes : (i : ℕ) → sized ((shown r).pieces i) ≡ true
  -- what is asked of it is said of what it shows
  pub held : (i : ℕ) → held_by r i ≡ holding (shown r) i
  pub free : free_cells r ≡ free (shown r).limits (holding (shown r))
  pub granted : (i : ℕ) → granted r i ≡ granted_in (shown r) i
  -- append: the piece at the end of that holder's and nothing else, if the rule grants a cell
  pub append-says : (i : ℕ) (xs : List ℕ) → appends r i xs ≡ takes_piece (shown r) i xs
  pub append-shows : (i : ℕ) (xs : List ℕ) → shown (appended r i xs) ≡ append_to (shown r) i xs
  pub append-sound : (i : ℕ) (xs : List ℕ) → sound (appended r i xs) ≡ true
  -- release: that holder has no piece, and nothing else changes
  pub release_shows : (i : ℕ) → shown (released r i) ≡ release_of (shown r) i
  pub release_sound : (i : ℕ) → sound (released r i) ≡ true
  -- the response is the pieces joined
  pub response : (i : ℕ) → response r i ≡ join ((shown r).pieces i)
  -- and copy out writes them at the front
  pub copy_shows : (i : ℕ) (out : List ℕ) → copied r i out ≡ splice out 0 (join ((shown r).pieces i))

pub record Promised : Type 0 where
  pub fresh : (r shares ceilings : List ℕ) → length shares ≡ holders → length ceilings ≡ holders
      → lays_out r shares ceilings ≡ true → Fresh r shares ceilings
  -- where there is a region, it is laid out exactly if the limits pass
  pub lays : (r shares ceilings : List ℕ) → size ≤ length r → lays_out r shares ceilings ≡ fit (pool_of shares ceilings)
  pub shows : (r : List ℕ) → sound r ≡ true → Shows r
  -- of any bytes: what is denied changes nothing, and no call changes the length
  pub denied : (r : List ℕ) (i : ℕ) (xs : List ℕ) → appends r i xs ≡ false → appended r i xs ≡ r
  pub unlaid : (r shares ceilings : List ℕ) → lays_out r shares ceilings ≡ false → laid_out r shares ceilings ≡ r
  pub laid-length : (r shares ceilings : List ℕ) → length (laid_out r shares ceilings) ≡ length r
  pub append-length : (r : List ℕ) (i : ℕ) (xs : List ℕ) → length (appended r i xs) ≡ length r
  pub release_length : (r : List ℕ) (i : ℕ) → length (released r i) ≡ length r
