-- The plain method keeps the promise in every run of a crew whose rule has cover 2. Assumes nothing.
use Rattle.std.proofs.Common.{◌≤◌, List, ◌++◌}
use Rattle.vote.specs.Setting.{Setting}
use Rattle.agreement.specs.Plain.{plain}
use Rattle.agreement.specs.Promises.{Promise}
use Rattle.agreement.specs.Runs.{Event, Crew, Legal}
use Rattle.agreement.proofs.Spans.{span_settled}
use Rattle.agreement.proofs.Plain.Closeness.{close}
use Rattle.agreement.proofs.Plain.Span.{in_span}
use Rattle.agreement.proofs.Plain.Binding.{bound}
use Rattle.agreement.proofs.Plain.Ending.{ends}

module _ {S : Setting} (two : 2 ≤ S.rule.cover) (C : Crew S) where
  pub plain_promise : (r : List Event) → Legal (plain S) C r → Promise (plain S) C r
  plain_promise r legal = record {
    decisions_at_most_one_step_apart = λ i j d e hi hj p q. close two C r legal i j d e p q;
    decisions_in_the_span_of_those_started = λ i d hi p. in_span two C r legal i d p;
    decisions_in_the_span = λ start keeps i d hi p. span_settled (plain S) C r start d keeps (in_span two C r legal i d p);
    the_first_decision_binds = λ one start x y lx ly kx ky. bound two C start (x ++ r) (y ++ r) lx ly kx ky;
    all_counted_all_decided = λ started delivered. ends C r started delivered;
  }
