-- The cases of the calls, and what their tests tell, over plain lists. Assumes nothing.
use mathlib.Core.Path.{◌≡◌, ap}
use mathlib.Core.Bool.{true, false, ◌&&◌}
use mathlib.Core.List.{List, []}
use Prim.Native.Nat.{ℕ, ◌≤◌, ◌<◌}
use lib.Dec.{ltb, leb}
use lib.ListN.{length}
use borrow.Author.Tests.{leb-true, ltb-true, lt-ltb, le-leb}
use Rattle.lent.specs.Place.{splice}
use Rattle.lent.proofs.Cases.{and_left, and_right}
use Rattle.shares.specs.Pool.{fit}
use Rattle.region.specs.Layout.{cells, cell_size, size, held, pool_of}
use Rattle.region.specs.Sound.{piece_size}
use Rattle.region.specs.Holding.{inside, granted}
use Rattle.region.proofs.HolderLaws.{Gets, granted_facts}
use Rattle.pool.specs.Calls.{fresh, lays_out, laid_out, lowest, takes, appends, appended, joined, response}

-- ---- a fresh region

module _ (r shares ceilings : List ℕ) where
  -- a region is laid out: there is one, and the limits pass
  pub lays_facts : lays_out r shares ceilings ≡ true → (size ≤ length r) × (fit (pool_of shares ceilings) ≡ true)
  unfolding lays_out
  lays_facts e = (leb-true size (length r) (and_left _ _ e), and_right (leb size (length r)) (fit (pool_of shares ceilings)) e)

  -- where there is one, it is by the limits alone
  pub lays_long : size ≤ length r → lays_out r shares ceilings ≡ fit (pool_of shares ceilings)
  unfolding lays_out
  lays_long h = ap (λ b. b && fit (pool_of shares ceilings)) (le-leb size (length r) h)

  pub laid_yes : lays_out r shares ceilings ≡ true → laid_out r shares ceilings ≡ splice r 0 (fresh shares ceilings)
  unfolding laid_out
  laid_yes e = rw e

  pub laid_no : lays_out r shares ceilings ≡ false → laid_out r shares ceilings ≡ r
  unfolding laid_out
  laid_no e = rw e

module _ (r : List ℕ) (i : ℕ) where
  -- ---- append

  pub takes_yes : granted r i ≡ true → lowest r < cells → takes r i ≡ true
  unfolding takes
  takes_yes e h = rw (e, lt-ltb (lowest r) cells h)

  pub takes_no : granted r i ≡ false → takes r i ≡ false
  unfolding takes
  takes_no e = rw e

  module _ (xs : List ℕ) where
    pub appended_no : appends r i xs ≡ false → appended r i xs ≡ r
    unfolding appended
    appended_no e = rw e

    -- a piece is taken: of 1 to 254 bytes, for a holder that gets a cell
    pub record Appends : Type 0 where
      pub some : 0 < length xs
      pub short : length xs ≤ cell_size
      pub gets : Gets r i

    pub appends_facts : appends r i xs ≡ true → Appends
    unfolding appends takes
    appends_facts e =
        let fits = and_left (piece_size (length xs)) _ e in
        record {
          some = ltb-true 0 (length xs) (and_left _ _ fits);
          short = leb-true (length xs) cell_size (and_right (ltb 0 (length xs)) _ fits);
          gets = granted_facts r i (and_left (granted r i) (ltb (lowest r) cells) (and_right (piece_size (length xs)) _ e));
        }

  -- ---- the response

  pub response_in : inside r i ≡ true → response r i ≡ joined r i (held r i)
  unfolding response
  response_in e = rw e

  pub response_out : inside r i ≡ false → response r i ≡ []
  unfolding response
  response_out e = rw e
