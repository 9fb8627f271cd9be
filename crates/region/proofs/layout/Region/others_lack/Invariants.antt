use Prim.Native.Nat.{◌*◌, ◌≤◌}
use mathlib.Core.Path.{◌≡◌}
use Rattle.region.specs.Layout.{held, pool_in}
use Rattle.shares.specs.Pool.{lack, others}
use Rattle.lent.specs.Fold.{sum}
use Rattle.region.proofs.layout.Region.others_lack.Given as goal

abbrev pub invariant-loop-j : goal.invariant-loop-j
invariant-loop-j l = (l.total ≤ 255 * l.j) × (l.total ≡ sum l.j (others l.i (lack (pool_in l.self) (held l.self))))
