use Rattle.std.proofs.Common.{arith}
use Rattle.wire.specs.Slips.{frames_of}
use Rattle.wire.proofs.PutFront.{zero_from}
use Rattle.wire.proofs.slip.Slip.write.Goals as goal

pub returns-clause-no_byte_behind_is_other_than_zero : goal.returns-clause-no_byte_behind_is_other_than_zero
returns-clause-no_byte_behind_is_other_than_zero c k le =
    zero_from c.put_frames-len.result (frames_of c.args.self.now.posted) c.args.buf.now c.put_frames-len.new.buf c.fill.new.self c.put_frames-len.ensures.value (omega arith)
    c.put_frames-len.ensures.buffer (c.fill.ensures.after (λ y e. e)) k le
