-- The theorems over all methods, from the proofs of each. Assumes nothing.
use Rattle.vote.specs.declared.Method.{Method}
use Rattle.vote.specs.declared.Method.TheVariants.{Plain, Echo}
use Rattle.vote.specs.Setting.{Setting}
use Rattle.agreement.specs.Methods.{method_of}
use Rattle.agreement.specs.Promises.{Agreement, EchoBindsWhateverStarts, EveryRunGoesOn}
use Rattle.agreement.proofs.Going.{Bounded, goes_on}
use Rattle.agreement.proofs.Plain.Postings.{plain_bounded}
use Rattle.agreement.proofs.Plain.Promised.{plain_promise}
use Rattle.agreement.specs.Plain.{plain}
use Rattle.agreement.specs.Echo.{echo}
use Rattle.agreement.proofs.Echo.Bounds.{echo_bounded}
use Rattle.agreement.proofs.Echo.Close.{echo_binds}
use Rattle.agreement.proofs.Echo.Promised.{echo_promise}

pub agreement : Agreement
unfolding Agreement
agreement Plain S cover C r lg = plain_promise cover C r lg
agreement Echo S cover C r lg = echo_promise cover C r lg

pub echo_binds_whatever_starts : EchoBindsWhateverStarts
unfolding EchoBindsWhateverStarts
echo_binds_whatever_starts S cover C r lg = echo_binds cover C r lg

-- the words of each method are of the kinds 1 to 5
pub bounded : (m : Method) (S : Setting) → Bounded S (method_of m S)
bounded Plain S = plain_bounded S
bounded Echo S = echo_bounded S

pub every_run_goes_on : EveryRunGoesOn
unfolding EveryRunGoesOn
every_run_goes_on Plain S C r lg = goes_on (plain S) C (bounded Plain S) r lg
every_run_goes_on Echo S C r lg = goes_on (echo S) C (bounded Echo S) r lg
