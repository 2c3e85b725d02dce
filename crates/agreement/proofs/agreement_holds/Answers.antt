-- Assumes nothing.
use Rattle.agreement.proofs.Agreeing.{agreement}
use Rattle.agreement.proofs.agreement_holds.Goals as goal

pub returns : goal.returns
returns c = agreement
