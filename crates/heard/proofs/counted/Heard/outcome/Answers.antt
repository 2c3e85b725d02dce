-- By the definition of what is due of the test 5. Assumes nothing.
use Rattle.std.proofs.Common.{sym, ◌∙◌}
use Rattle.heard.proofs.Tested.{outcome_shared}
use Rattle.heard.proofs.counted.Heard.outcome.Goals as goal

pub returns : goal.returns
returns g c = λ d x e. outcome_shared c.args.voting.now c.args.self.now d x e c.args.vote (sym c.if-late.false ∙ c.late.ensures d x e) (c.shared.ensures d x e)
