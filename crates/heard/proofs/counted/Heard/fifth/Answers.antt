-- By the definition of what is due of the test 6. Assumes nothing.
use Rattle.heard.proofs.Tested.{fifth_shared, fifth_late}
use Rattle.heard.proofs.counted.Heard.fifth.Goals as goal

pub returns-in-None : goal.returns-in-None
returns-in-None g c = λ d x e. fifth_late c.args.voting.now c.args.self.now d x e c.args.vote (c.shared.ensures d x e) c.in-None.is (c.late.ensures d x e) c.then_some.ensures

pub returns-in_default : goal.returns-in_default
returns-in_default g c = λ d x e. fifth_shared c.args.voting.now c.args.self.now d x e c.args.vote c.shared.result (c.shared.ensures d x e) c.in_default.not-None
