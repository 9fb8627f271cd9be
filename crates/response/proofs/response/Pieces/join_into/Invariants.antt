use mathlib.Core.Path.{◌≡◌}
use lib.ListN.{length}
use Rattle.pool.specs.Calls.{joined}
use Rattle.lent.specs.Place.{splice}
use Rattle.response.proofs.response.Pieces.join_into.Given as goal

abbrev pub invariant-loop-k : goal.invariant-loop-k
invariant-loop-k l =
    (l.at ≡ length (joined l.self.region l.self.i l.k)) × (length l.out ≡ length l.initial.out) × (l.out ≡ splice l.initial.out 0 (joined l.self.region l.self.i l.k))
