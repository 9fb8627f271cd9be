-- Two lawful protocols side by side are a lawful one, so demand 3 holds of them. Assumes nothing.
use Prim.Native.Nat.{ℕ, suc, ◌≤◌}
use mathlib.Core.Logic.{◌⊎◌}
use mathlib.Core.Bool.{true, false}
use native.Mathlib.Omega.{arith}
use Rattle.shares.specs.Pool.{Pool, Fit, Sound}
use Rattle.shares.specs.Rack.{Protocol, Lawful, Rack, holds}
use Rattle.shares.specs.Demand.{Demand3}
use Rattle.shares.specs.Both.{Turn, first, second, neither, Sides, held_both, start_held, turn_next, both}
use Rattle.shares.proofs.DemandLaws.{demand3}

module _ {P Q : Protocol} (U : Lawful P) (W : Lawful Q) where
  turn-keeps : {A : Type 0} (i : ℕ) (t : Turn P Q A) → held_both P Q (turn_next i t false) ≤ start_held t
  turn-keeps i (first s x) = U.keeps i s x
  turn-keeps i (second s x) = W.keeps i s x
  turn-keeps i (neither s a) = omega arith

  turn-takes : {A : Type 0} (i : ℕ) (t : Turn P Q A) → held_both P Q (turn_next i t true) ≤ suc (start_held t)
  turn-takes i (first s x) = U.takes i s x
  turn-takes i (second s x) = W.takes i s x
  turn-takes i (neither s a) = omega arith

  -- whose turn it is takes no cell
  module _ (S : Sides P Q) (fair : (i : ℕ) (s : P.State ⊎ Q.State) (x : S.Input) → start_held (S.turn i s x) ≤ held_both P Q s) where
    pub both_lawful : Lawful (both S)
    both_lawful = record {
      keeps = λ i s x. omega (arith, turn-keeps i (S.turn i s x), fair i s x);
      takes = λ i s x. omega (arith, turn-takes i (S.turn i s x), fair i s x);
    }

    pub both_demand3 : (K : Pool) → Fit K → (r : Rack (both S)) → Sound K (holds (both S) r) → Demand3 K (both S) r
    both_demand3 K F r G = demand3 K (both S) F both_lawful r G
