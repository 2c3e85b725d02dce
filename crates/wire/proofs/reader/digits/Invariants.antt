use Rattle.std.proofs.Common.{◌≡◌, ◌+◌, ◌<◌, take, drop}
use Rattle.wire.specs.Fields.{run, value_of}
use Rattle.wire.proofs.reader.digits.Given as goal

abbrev pub invariant-loop-i : goal.invariant-loop-i
invariant-loop-i l = (l.number < 65536) × (l.number ≡ value_of (take l.i l.bytes)) × (l.i + run (drop l.i l.bytes) ≡ run l.bytes)
