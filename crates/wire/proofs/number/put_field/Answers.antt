use Rattle.std.proofs.Common.{◌+◌, arith}
use Rattle.std.proofs.lemmas.List.{length-set}
use Rattle.wire.proofs.PutFront.{digit_field}
use Rattle.wire.proofs.number.put_field.Goals as goal

pub bounds-buf-1 : goal.bounds-buf-1
bounds-buf-1 c = omega (arith, digit_field c.args.number c.args.end c.if-number-lt10.true, length-set c.args.buf.now 0 (48 + c.args.number))
