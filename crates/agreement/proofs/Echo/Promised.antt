-- The echo method keeps the promise in every run of a crew whose rule has cover 3. Assumes nothing.
use Rattle.std.proofs.Common.{◌≤◌, List}
use Rattle.vote.specs.Setting.{Setting}
use Rattle.agreement.specs.Echo.{echo}
use Rattle.agreement.specs.Promises.{Promise}
use Rattle.agreement.specs.Runs.{Event, Crew, Legal}
use Rattle.agreement.proofs.Spans.{span_settled}
use Rattle.agreement.proofs.Echo.Close.{echo_close, echo_binds}
use Rattle.agreement.proofs.Echo.Span.{echo_spanned}
use Rattle.agreement.proofs.Echo.Live.{echo_ends}

module _ {S : Setting} (three : 3 ≤ S.rule.cover) (C : Crew S) where
  pub echo_promise : (r : List Event) → Legal (echo S) C r → Promise (echo S) C r
  echo_promise r lg = record {
    decisions_at_most_one_step_apart = λ i j d e hi hj p q. echo_close three C r lg i j d e p q;
    decisions_in_the_span_of_those_started = λ i d hi p. echo_spanned three C r lg i d hi p;
    decisions_in_the_span = λ start keeps i d hi p. span_settled (echo S) C r start d keeps (echo_spanned three C r lg i d hi p);
    the_first_decision_binds = λ dr start x y lx ly kx ky. echo_binds three C r lg dr x y lx ly;
    all_counted_all_decided = λ begun delivered. echo_ends three C r lg begun delivered;
  }
