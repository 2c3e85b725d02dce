-- The facts are by the rule's laws. Assumes nothing.
use Rattle.quorum.specs.Facts.{AmpleSetsShare}
use Rattle.quorum.proofs.Sharing.{ample_facts}
use Rattle.quorum.proofs.ask.ample.Goals as goal

pub returns-then-crew-gt-MAX_CREW-clause-facts : goal.returns-then-crew-gt-MAX_CREW-clause-facts
unfolding AmpleSetsShare
returns-then-crew-gt-MAX_CREW-clause-facts g c = ample_facts (g.met.R.FailureRule.lawful c.args.rule.now)

pub returns-clause-facts : goal.returns-clause-facts
unfolding AmpleSetsShare
returns-clause-facts g c = ample_facts (g.met.R.FailureRule.lawful c.args.rule.now)
