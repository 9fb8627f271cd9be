use Prim.Native.Nat.{ℕ}
use mathlib.Core.Path.{◌≡◌}
use lib.ListN.{length}
use Rattle.region.specs.Layout.{listed}
use Rattle.pool.specs.Calls.{freed}
use Rattle.pool.proofs.freeing.release.Given as goal

abbrev pub invariant-loop-k : goal.invariant-loop-k
invariant-loop-k l =
    (length l.r ≡ length l.initial.r) × (l.r ≡ freed l.initial.r l.i l.k) × ((o : ℕ) → listed l.r l.i o ≡ listed l.initial.r l.i o)
