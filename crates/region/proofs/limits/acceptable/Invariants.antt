use Prim.Native.Nat.{◌*◌, ◌≤◌}
use mathlib.Core.Path.{◌≡◌}
use mathlib.Core.Bool.{true}
use lib.ListN.{get_or}
use Rattle.region.specs.Layout.{pool_of}
use Rattle.shares.specs.Pool.{limit}
use Rattle.lent.specs.Fold.{all, sum}
use Rattle.region.proofs.limits.acceptable.Given as goal

abbrev pub invariant-loop-i : goal.invariant-loop-i
invariant-loop-i l =
    (l.total ≤ 255 * l.i) × (all l.i (limit (pool_of l.shares l.ceilings)) ≡ true) × (l.total ≡ sum l.i (λ j. get_or l.shares j 0))
