-- Assumes nothing.
use Rattle.agreement.proofs.Agreeing.{every_run_goes_on}
use Rattle.agreement.proofs.every_run_goes_on.Goals as goal

pub returns : goal.returns
returns c = every_run_goes_on
