use Prim.Native.Nat.{ℕ, ◌*◌, ◌≤◌}
use mathlib.Core.Path.{◌≡◌}
use mathlib.Core.Bool.{Bool, true}
use mathlib.Core.List.{List}
use lib.Dec.{leb}
use Rattle.region.specs.Layout.{held, pool_in}
use Rattle.shares.specs.Pool.{lack}
use Rattle.lent.specs.Fold.{all, sum}
use Rattle.sound.proofs.sound.are_holdings.Given as goal

abbrev under : List ℕ → ℕ → Bool
under r j = leb (held r j) ((pool_in r).ceiling j)

abbrev pub invariant-loop-j : goal.invariant-loop-j
invariant-loop-j l =
    (l.total ≤ 255 * l.j) × (l.lacking ≤ 255 * l.j) × (all l.j (under l.r) ≡ true) × (l.total ≡ sum l.j (held l.r)) × (l.lacking ≡ sum l.j (lack (pool_in l.r) (held l.r)))
