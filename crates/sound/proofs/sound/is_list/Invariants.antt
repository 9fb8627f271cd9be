use mathlib.Core.Path.{◌≡◌}
use mathlib.Core.Bool.{true}
use Rattle.region.specs.Sound.{listed_well}
use Rattle.lent.specs.Fold.{all}
use Rattle.sound.proofs.sound.is_list.Given as goal

abbrev pub invariant-loop-k : goal.invariant-loop-k
invariant-loop-k l = all l.k (listed_well l.r l.i) ≡ true
