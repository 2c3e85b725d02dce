use Rattle.std.proofs.Common.{arith}
use Rattle.wire.proofs.PutFront.{zero_from}
use Rattle.wire.proofs.write.write_word.Goals as goal

pub returns-clause-no_byte_behind_is_other_than_zero : goal.returns-clause-no_byte_behind_is_other_than_zero
returns-clause-no_byte_behind_is_other_than_zero c k le =
    zero_from c.put-end.result c.in-Some.frame c.args.buf.now c.put-end.new.buf c.fill.new.self c.put-end.ensures.value (omega arith) c.put-end.ensures.buffer
    (c.fill.ensures.after (λ y e. e)) k le
