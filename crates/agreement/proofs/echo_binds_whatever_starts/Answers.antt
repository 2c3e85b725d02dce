-- Assumes nothing.
use Rattle.agreement.proofs.Agreeing.{echo_binds_whatever_starts}
use Rattle.agreement.proofs.echo_binds_whatever_starts.Goals as goal

pub returns : goal.returns
returns c = echo_binds_whatever_starts
