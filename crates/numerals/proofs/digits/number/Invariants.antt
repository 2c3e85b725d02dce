-- What is left, after what was read, gives the number; where something is left, what was read is no leading zero. Assumes nothing.
use Rattle.std.proofs.Common.{◌≡◌, ◌<◌, drop, length, Some}
use Rattle.numerals.specs.Numerals.{number_on, number_in}
use Rattle.numerals.proofs.digits.number.Given as goal

abbrev pub invariant-loop-byte : goal.invariant-loop-byte
invariant-loop-byte l = (number_on (Some l.value) (drop l.byte-index l.rest) ≡ number_in l.bytes) × (l.byte-index < length l.rest → 0 < l.value)
