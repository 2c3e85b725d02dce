-- By the definition of the value that is due. Assumes nothing.
use Rattle.std.proofs.Common.{arith}
use Rattle.heard.proofs.Tested.{shared_made}
use Rattle.heard.proofs.counted.Heard.shared.Goals as goal

pub returns : goal.returns
returns g c = λ d x e.
    shared_made c.args.voting.now c.args.self.now d x e c.args.vote c.args.kind (omega arith) (omega arith) (omega arith) (omega arith) c.ample.ensures.value c.then_some.ensures
