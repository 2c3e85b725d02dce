-- By the definition of what is due of the test 4. Assumes nothing.
use Rattle.heard.proofs.Tested.{third_shared}
use Rattle.heard.proofs.counted.Heard.third.Goals as goal

pub returns-then-vote-eq2 : goal.returns-then-vote-eq2
returns-then-vote-eq2 g c = λ d x e. third_shared c.args.voting.now c.args.self.now d x e c.args.vote c.if-vote-eq2.true (c.shared.ensures d x e)
