-- Demand 3, of a rack r as the start of any sequence of calls on any numbers, refused ones among them.
use Rattle.std.specs.Prelude.{ℕ, ◌≤◌, ◌<◌, ◌≡◌, ◌↔◌, true, false, List}
use Rattle.shares.specs.Pool.{Pool, Sound, free, others_lack}
use Rattle.shares.specs.Rack.{Protocol, Call, Rack, holds, asked, gets, run, answers, answers_on, AllModest, ModestOn, strike}

-- What holds of each rack that is reached; i is the holder of a further call, x what the call gives it. `gets` says that
-- the call asks and is given a cell; what a holder then does with it is its protocol's own promise.
pub record Reached (K : Pool) (P : Protocol) (r : Rack P) : Type 0 where
  -- the pool stays sound
  pub sound : Sound K (holds P r)
  -- no holder holds more cells than its ceiling
  pub ceilings : (i : ℕ) → i < K.holders → P.held (r i) ≤ K.ceiling i
  -- below its share: a cell
  pub below : (i : ℕ) (x : P.Input) → asked K P r i x ≡ true → P.held (r i) < K.share i → gets K P r i x ≡ true
  -- holding its share or more but less than its ceiling: exactly when the free cells outnumber what the others lack
  pub between : (i : ℕ) (x : P.Input) → asked K P r i x ≡ true → K.share i ≤ P.held (r i) → P.held (r i) < K.ceiling i
      → (gets K P r i x ≡ true) ↔ (others_lack K (holds P r) i < free K (holds P r))
  -- at its ceiling: none
  pub full : (i : ℕ) (x : P.Input) → i < K.holders → K.ceiling i ≤ P.held (r i) → gets K P r i x ≡ false
  -- a cell that is given is there
  pub room : (i : ℕ) (x : P.Input) → gets K P r i x ≡ true → 0 < free K (holds P r)

pub record Demand3 (K : Pool) (P : Protocol) (r : Rack P) : Type 0 where
  pub reached : (cs : List (Call P)) → Reached K P (run K P r cs)
  -- strike out all calls on other holders: if what remains never asks for a cell while already holding the share,
  -- every remaining call gives the same answer as before the striking
  pub struck : (i : ℕ) (cs : List (Call P)) → AllModest K P r (strike i cs)
      → answers K P r (strike i cs) ≡ answers_on K P i r cs
  -- the same where "never asks" is read of the calls as they stood before the striking
  pub unstruck : (i : ℕ) (cs : List (Call P)) → ModestOn K P i r cs
      → answers K P r (strike i cs) ≡ answers_on K P i r cs
