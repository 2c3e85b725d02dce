use Rattle.std.proofs.Common.{sym, ◌∙◌, arith}
use Rattle.std.proofs.lemmas.Grind.{common_steps}
use Rattle.group.specs.Calls.{forging}
use Rattle.group.proofs.Called.{forge_refused, forge_stands, takes_there}
use Rattle.group.proofs.Played.{accepted}
use Rattle.group.proofs.group.Group.forge.Goals as goal

pub returns-then-not-has_both-clause-plays : goal.returns-then-not-has_both-clause-plays
returns-then-not-has_both-clause-plays g c =
    forge_refused _ _ (g.met.R.FailureRule.lawful c.args.self.now.rule) _ _ _ _ (grind (arith, common_steps))

pub returns-then-lies-clause-plays : goal.returns-then-lies-clause-plays
returns-then-lies-clause-plays g c =
    forge_refused _ _ (g.met.R.FailureRule.lawful c.args.self.now.rule) _ _ _ _ (grind (arith, common_steps, c.if-lies.ensures))

pub returns-then-not-begun-clause-plays : goal.returns-then-not-begun-clause-plays
returns-then-not-begun-clause-plays g c =
    forge_refused _ _ (g.met.R.FailureRule.lawful c.args.self.now.rule) _ _ _ _ (grind (arith, common_steps, c.if-lies.ensures))

pub returns-then-not-lies-clause-plays : goal.returns-then-not-lies-clause-plays
returns-then-not-lies-clause-plays g c =
    forge_refused _ _ (g.met.R.FailureRule.lawful c.args.self.now.rule) _ _ _ _ (grind (arith, common_steps, c.if-lies.ensures, c.if-not-lies.ensures))

pub returns-clause-plays : goal.returns-clause-plays
returns-clause-plays g c =
    let T = c.args.self.now.terms in
    let o = c.args.self.now.records in
    accepted (g.met.R.FailureRule.lawful c.args.self.now.rule) (forging c.args.to c.args.from c.args.bytes.now) o _ _
    (λ xs reached. sym (grind (arith, common_steps, c.if-lies.ensures, c.if-not-lies.ensures)) ∙ forge_stands T o c.args.to c.args.from c.args.bytes.now xs reached)
    (takes_there T o c.args.to c.args.from c.args.bytes.now _ _ c.take.ensures.takes c.if-not-begun.ensures)
