-- What is left gets shorter. Assumes nothing.
use Rattle.std.proofs.Common.{length}
use Rattle.board_bench.proofs.play.Given as goal

abbrev pub decreases-loop-line : goal.decreases-loop-line
decreases-loop-line l = length l.left
