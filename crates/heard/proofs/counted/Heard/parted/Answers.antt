-- By the definition of parted. Assumes nothing.
use Rattle.std.proofs.Common.{◌∙◌}
use Rattle.agreement.specs.Echo.{parted}
use Rattle.heard.proofs.Made.{parted_is}
use Rattle.heard.proofs.counted.Heard.parted.Goals as goal

pub returns : goal.returns
unfolding parted
returns g c = λ d x e. c.parted_among.ensures ∙ parted_is c.args.voting.now c.args.self.now x e
