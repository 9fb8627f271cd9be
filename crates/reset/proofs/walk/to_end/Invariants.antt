use Rattle.atr.specs.Walk.{walk_of, walk_from, some_other}
use mathlib.Core.Path.{◌≡◌}
use mathlib.Core.Bool.{◌||◌}
use lib.ListN.{length}
use Prim.Native.Nat.{◌+◌, ◌-◌, ◌*◌, ◌/◌, ◌≤◌}
use Rattle.reset.proofs.walk.to_end.Given as goal

abbrev pub invariant-loop-walk : goal.invariant-loop-walk
invariant-loop-walk l = record {
  bytes : l.walk.s.now ≡ l.s;
  within : l.walk.at ≤ length l.s + 2 + 4 * (l.walk.td / 256);
  td : l.walk.td ≤ 256;
  size : l.walk.at + (walk_from l.s l.walk.at l.walk.td).size ≡ 2 + (walk_of l.s).size;
  other : (l.tck || some_other (walk_from l.s l.walk.at l.walk.td).groups) ≡ some_other (walk_of l.s).groups;
}

abbrev pub decreases-loop-walk : goal.decreases-loop-walk
decreases-loop-walk l = 2000 - l.walk.at - 2000 * (l.walk.td / 256)
