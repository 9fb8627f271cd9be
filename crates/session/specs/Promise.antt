-- What is promised of T=1 over a pool, from any rack whose pool is sound: of each slot that starts empty, and of each that
-- starts in a state that keeps the invariant, over any calls on any slots, refused ones among them.
use Rattle.std.specs.Prelude.{ℕ, ◌≤◌, ◌<◌, ◌≡◌, ◌&&◌, List, [], eqb}
use Rattle.shares.specs.Pool.{Pool}
use Rattle.shares.specs.Rack.{Call, Rack, run}
use Rattle.shares.specs.Demand.{Demand3}
use Rattle.shares.specs.Log.{log_on}
use Rattle.session.specs.Slot.{State, state_no, held_in, empty}
use Rattle.session.specs.Call.{Input}
use Rattle.session.specs.Refusal.{refusal}
use Rattle.session.specs.Due.{due_in}
use Rattle.session.specs.Protocol.{t1}
use Rattle.session.specs.History.{held_by, state_in, AllTold, AllBound}
use Rattle.session.specs.Kept.{Kept}

pub record Slot (K : Pool) (r : Rack t1) (i : ℕ) (cs : List (Call t1)) : Type 0 where
  -- every call was answered as its past says
  pub told : AllTold (K.ceiling i) (log_on K t1 i r [] cs)
  -- the slot is in the state that was told last, and holds what its past says, within its ceiling
  pub state : state_no (run K t1 r cs i) ≡ state_in (log_on K t1 i r [] cs)
  pub held : held_in (run K t1 r cs i) ≡ held_by (log_on K t1 i r [] cs)
  pub ceiling : held_in (run K t1 r cs i) ≤ K.ceiling i
  -- and its invariant is kept
  pub kept : Kept (run K t1 r cs i)

-- from any state that keeps the invariant: it is kept on, and the bound holds
pub record Later (K : Pool) (r : Rack t1) (i : ℕ) (cs : List (Call t1)) : Type 0 where
  pub kept : Kept (run K t1 r cs i)
  pub bound : AllBound (K.ceiling i) (log_on K t1 i r [] cs)

pub record Promised (K : Pool) (r : Rack t1) : Type 0 where
  pub shares : Demand3 K t1 r
  -- whose calls ask for a cell exactly for an I-block that is the next one due, where they are not refused
  pub due : (i : ℕ) (s : State) (x : Input) → t1.asks i s x ≡ (eqb (refusal s x) 0 && due_in s x)
  pub slots : (i : ℕ) → i < K.holders → r i ≡ empty → (cs : List (Call t1)) → Slot K r i cs
  pub later : (i : ℕ) → i < K.holders → Kept (r i) → (cs : List (Call t1)) → Later K r i cs
