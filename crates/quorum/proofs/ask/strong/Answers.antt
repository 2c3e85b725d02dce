-- The facts are by the rule's laws. Assumes nothing.
use Rattle.quorum.specs.Facts.{StrongSetsHold}
use Rattle.quorum.proofs.Sharing.{strong_facts}
use Rattle.quorum.proofs.ask.strong.Goals as goal

pub returns-clause-facts : goal.returns-clause-facts
unfolding StrongSetsHold
returns-clause-facts g c = strong_facts (g.met.R.FailureRule.lawful c.args.rule.now)
