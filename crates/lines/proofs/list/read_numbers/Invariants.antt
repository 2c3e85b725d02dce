-- The parts that are left, after those that were read, give the numbers. Assumes nothing.
use Rattle.std.proofs.Common.{◌≡◌, drop, length}
use Rattle.fixed.specs.Items.{items_of}
use Rattle.numerals.specs.Numerals.{parts, numbers_in}
use Rattle.numerals.proofs.Reading.{after}
use Rattle.lines.proofs.list.read_numbers.Given as goal

abbrev pub invariant-loop-part : goal.invariant-loop-part
invariant-loop-part l = after (items_of l.done) (drop (length l.yielded) (parts l.bytes)) ≡ numbers_in l.bytes
