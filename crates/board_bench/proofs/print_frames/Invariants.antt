-- What is left gets shorter. Assumes nothing.
use Rattle.std.proofs.Common.{length}
use Rattle.board_bench.proofs.print_frames.Given as goal

abbrev pub decreases-loop-frame : goal.decreases-loop-frame
decreases-loop-frame l = length l.left
