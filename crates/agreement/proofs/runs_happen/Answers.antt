-- Assumes nothing.
use Rattle.agreement.proofs.Plain.Played.{plain_runs_happen}
use Rattle.agreement.proofs.Echo.Played.{echo_runs_happen}
use Rattle.agreement.proofs.runs_happen.Goals as goal

pub returns : goal.returns
returns c = record { plain = plain_runs_happen; echo = echo_runs_happen }
