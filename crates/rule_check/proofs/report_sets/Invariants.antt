-- What is left gets shorter. Assumes nothing.
use Rattle.std.proofs.Common.{length}
use Rattle.rule_check.proofs.report_sets.Given as goal

abbrev pub decreases-loop-line : goal.decreases-loop-line
decreases-loop-line l = length l.left
