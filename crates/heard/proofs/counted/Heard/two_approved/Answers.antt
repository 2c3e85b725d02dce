-- Two values are approved where one above the lowest is. Assumes nothing.
use Rattle.std.proofs.Common.{◌∙◌}
use Rattle.heard.proofs.Tested.{two_made_some}
use Rattle.heard.proofs.counted.Heard.two_approved.Goals as goal

pub returns-in-Some : goal.returns-in-Some
returns-in-Some g c = λ d x e.
    c.is_some.ensures
    ∙ two_made_some c.args.voting.now c.args.self.now d x e c.in-Some.u c.lowest_ample.ensures c.in-Some.is c.lowest_ample-in-Some.ensures
