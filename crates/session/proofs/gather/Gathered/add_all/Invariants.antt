-- The bytes before this one are added. Assumes nothing.
use Rattle.std.proofs.Common.{◌≡◌, ◌++◌, take}
use Rattle.fixed.specs.Items.{items_of}
use Rattle.session.proofs.gather.Gathered.add_all.Given as goal

abbrev pub invariant-loop-byte : goal.invariant-loop-byte
invariant-loop-byte l = items_of l.self.bytes ≡ take 122 (items_of l.fn.self.bytes ++ take l.byte-index l.bytes)
