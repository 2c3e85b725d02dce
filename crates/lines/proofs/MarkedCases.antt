-- The marked cases, each by computing. Assumes nothing.
use Rattle.std.proofs.Common.{refl}
use Rattle.lines.specs.Lines.{call_in}
use Rattle.numerals.specs.Numerals.{numbers_in}
use Rattle.lines.specs.Marked.{MarkedCasesHold}

pub marked_cases_hold : MarkedCasesHold
unfolding MarkedCasesHold call_in numbers_in
marked_cases_hold = (refl, (refl, (refl, (refl, (refl, (refl, (refl, (refl, (refl, (refl, (refl, (refl, (refl, (refl, (refl, (refl, (refl, (refl, tt))))))))))))))))))
