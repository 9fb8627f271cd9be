-- Shares and ceilings: read in their place or byte by byte, and what leaves them. Assumes nothing.
use mathlib.Core.Path.{◌≡◌, ap₂}
use mathlib.Core.List.{List}
use Prim.Native.Nat.{ℕ, ◌+◌, ◌≤◌, ◌<◌}
use native.Mathlib.Omega.{arith}
use lib.ListN.{get_or, set}
use Rattle.lent.specs.Place.{window}
use Rattle.lent.proofs.PlaceLaws.{get_or-window, window-set}
use Rattle.region.specs.Layout.{holders, shares_at, ceilings_at, held_at, pool_of, pool_in}

pub share_at : (r : List ℕ) (i : ℕ) → i < holders → (pool_in r).share i ≡ get_or r (shares_at + i) 0
share_at r i h = get_or-window r shares_at holders i h

pub ceiling_at : (r : List ℕ) (i : ℕ) → i < holders → (pool_in r).ceiling i ≡ get_or r (ceilings_at + i) 0
ceiling_at r i h = get_or-window r ceilings_at holders i h

-- the pool goes by the bytes before held_at
pub pool_head : (t u : List ℕ) → ((b : ℕ) → b + holders ≤ held_at → window t b holders ≡ window u b holders) → pool_in t ≡ pool_in u
pool_head t u same = ap₂ pool_of (same shares_at (omega arith)) (same ceilings_at (omega arith))

-- a byte written behind them leaves it
pub pool_set : (t : List ℕ) (a v : ℕ) → held_at ≤ a → pool_in (set t a v) ≡ pool_in t
pool_set t a v h = pool_head (set t a v) t (λ b l. window-set t a v b holders (omega arith))
