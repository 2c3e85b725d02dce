use Rattle.std.proofs.Common.{None, sym, ◌∙◌, arith}
use Rattle.std.proofs.lemmas.Grind.{common_steps}
use Rattle.group.specs.declared.fault.GroupFault.TheVariants.{Unposted}
use Rattle.group.specs.Calls.{carrying}
use Rattle.group.specs.Steps.{StandsAgainst}
use Rattle.group.proofs.Called.{carry_refused, carry_stands, takes_there}
use Rattle.group.proofs.Played.{refused, accepted, posted_carried}
use Rattle.group.proofs.group.Group.carry.Goals as goal
use Rattle.group.proofs.group.Group.carry.Goals.{then-lies-via-then-lies, then-lies-via-else-lies+then-lies-2, then-not-begun-via-then-not-begun, then-not-begun-via-else-not-begun+then-not-begun-2}

pub returns-then-not-has_both-clause-plays : goal.returns-then-not-has_both-clause-plays
returns-then-not-has_both-clause-plays g c =
    carry_refused _ _ (g.met.R.FailureRule.lawful c.args.self.now.rule) _ _ _ _ _
    (λ sent. grind (arith, common_steps))

pub returns-then-lies-clause-plays : goal.returns-then-lies-clause-plays
returns-then-lies-clause-plays g c =
    carry_refused _ _ (g.met.R.FailureRule.lawful c.args.self.now.rule) _ _ _ _ _
    (λ sent. elim c.then-lies.branch [
      | then-lies-via-then-lies w ↦ grind (arith, common_steps, w.if-lies.ensures)
      | then-lies-via-else-lies+then-lies-2 w ↦ grind (arith, common_steps, w.if-lies.ensures, w.if-lies-2.ensures)
    ])

pub returns-then-not-begun-clause-plays : goal.returns-then-not-begun-clause-plays
returns-then-not-begun-clause-plays g c =
    carry_refused _ _ (g.met.R.FailureRule.lawful c.args.self.now.rule) _ _ _ _ _
    (λ sent. grind (arith, common_steps, c.if-lies.ensures, c.if-lies-2.ensures))

pub returns-then-not-posted-clause-plays : goal.returns-then-not-posted-clause-plays
returns-then-not-posted-clause-plays g c =
    let T = c.args.self.now.terms in
    let o = c.args.self.now.records in
    refused (g.met.R.FailureRule.lawful c.args.self.now.rule) (carrying c.args.to c.args.from c.args.kind c.args.value) o Unposted
    (λ xs reached. sym (grind (arith, common_steps, c.if-lies.ensures, c.if-lies-2.ensures)) ∙ carry_stands T o xs reached c.args.to c.args.from c.args.kind c.args.value _ (c.if-not-posted.ensures.value xs reached))

pub returns-clause-plays : goal.returns-clause-plays
returns-clause-plays g c =
    let R = g.R.FailureRule.meaning c.args.self.now.rule in
    let T = c.args.self.now.terms in
    let o = c.args.self.now.records in
    let law = g.met.R.FailureRule.lawful c.args.self.now.rule in
    let stands : StandsAgainst R T (carrying c.args.to c.args.from c.args.kind c.args.value) o None =
    λ xs reached. sym (grind (arith, common_steps, c.if-lies.ensures, c.if-lies-2.ensures)) ∙ carry_stands T o xs reached c.args.to c.args.from c.args.kind c.args.value _ (c.if-not-posted.ensures.value xs reached) in
    accepted law (carrying c.args.to c.args.from c.args.kind c.args.value) o _ _ stands
    (λ xs reached.
    takes_there T o c.args.to _ _ _ _ (c.bring.ensures.brings (posted_carried law o c.args.to c.args.from c.args.kind c.args.value stands xs reached)) c.if-not-begun.ensures xs reached)
