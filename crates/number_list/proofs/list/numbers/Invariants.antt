-- What is left, behind the numbers that were read, gives the numbers. Assumes nothing.
use Rattle.std.proofs.Common.{◌≡◌, length, vec_items}
use Rattle.numerals.specs.Numerals.{numbers_in}
use Rattle.numerals.proofs.Fields.{led}
use Rattle.number_list.proofs.list.numbers.Given as goal

abbrev pub invariant-loop-value : goal.invariant-loop-value
invariant-loop-value l = led (vec_items l.done) (numbers_in l.left) ≡ numbers_in l.bytes

abbrev pub decreases-loop-value : goal.decreases-loop-value
decreases-loop-value l = length l.left
