use Rattle.std.proofs.Common.{length}
use Rattle.vectors.proofs.cards.listed.Given as goal

abbrev pub decreases-loop-n : goal.decreases-loop-n
decreases-loop-n g l = length l.rest
