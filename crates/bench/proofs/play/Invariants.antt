use Rattle.std.proofs.Common.{length}
use Rattle.bench.proofs.play.Given as goal

abbrev pub decreases-loop-line : goal.decreases-loop-line
decreases-loop-line g l = length l.left
