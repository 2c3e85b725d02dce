use Rattle.wire.specs.Frames.{frame_of}
use Rattle.wire.specs.Slips.{if_held}
use Rattle.wire.proofs.InOrder.{PuttingFront}
use Rattle.wire.proofs.posted.Posted.put_kind.Given as goal

abbrev pub invariant-loop-value : goal.invariant-loop-value
invariant-loop-value l = PuttingFront frame_of (if_held l.self l.kind) l.initial.buf l.value l.len l.buf
