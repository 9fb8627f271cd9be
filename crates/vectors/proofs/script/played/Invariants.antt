use Rattle.std.proofs.Common.{length}
use Rattle.vectors.proofs.script.played.Given as goal

abbrev pub decreases-loop-player : goal.decreases-loop-player
decreases-loop-player g l = length l.rest
