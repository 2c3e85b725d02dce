use Rattle.std.proofs.Common.{suc, ◌-◌}
use Rattle.wire.specs.Frames.{frame_of}
use Rattle.wire.specs.Slips.{words_of_kind}
use Rattle.wire.proofs.InOrder.{PuttingFront}
use Rattle.wire.proofs.posted.Posted.put_frames.Given as goal

abbrev pub invariant-loop-kind : goal.invariant-loop-kind
invariant-loop-kind l = PuttingFront frame_of (λ j. words_of_kind l.self (suc j)) l.initial.buf (l.kind - 1) l.len l.buf
