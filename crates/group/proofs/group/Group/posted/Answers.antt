use Rattle.std.proofs.Common.{ap, sym, option_copied, ◌∙◌, arith}
use Rattle.std.proofs.lemmas.Option.{MatchOption-at_some}
use Rattle.group.proofs.Posted.{kind_unposted, value_unposted, started_there, posted_told}
use Rattle.group.proofs.group.Group.posted.Goals as goal
use Rattle.group.proofs.group.Group.posted.Goals.{then-kind-gt-MAX_KIND-via-then-kind-gt-MAX_KIND, then-kind-gt-MAX_KIND-via-else-kind-gt-MAX_KIND+then-value-gt-MAX_VALUE}

pub returns-then-kind-gt-MAX_KIND-clause-value : goal.returns-then-kind-gt-MAX_KIND-clause-value
returns-then-kind-gt-MAX_KIND-clause-value g c xs reached l on =
    let law = g.met.R.FailureRule.lawful c.args.self.now.rule in
    elim c.then-kind-gt-MAX_KIND.branch [
      | then-kind-gt-MAX_KIND-via-then-kind-gt-MAX_KIND w ↦ kind_unposted law reached.opened xs c.args.board c.args.kind c.args.value l (omega arith)
      | then-kind-gt-MAX_KIND-via-else-kind-gt-MAX_KIND+then-value-gt-MAX_VALUE w ↦ value_unposted law reached.opened xs c.args.board c.args.kind c.args.value l (omega arith)
    ]

pub returns-in_default-clause-value : goal.returns-in_default-clause-value
returns-in_default-clause-value g c xs reached l on =
    absurd (started_there (g.met.R.FailureRule.lawful c.args.self.now.rule) reached.opened xs c.args.self.now.records reached.shown c.args.board (omega (arith, l, reached.opened.crew_fits)) on
    (sym c.record.ensures ∙ ap option_copied c.in_default.is-1))

pub returns-clause-value : goal.returns-clause-value
returns-clause-value g c xs reached l on =
    posted_told (g.met.R.FailureRule.lawful c.args.self.now.rule) reached.opened xs c.args.self.now.records reached.shown c.args.board c.args.kind c.args.value
    c.in-Some-Some.record.now c.in-Some-Some.fitting.fit c.has_posted.result
    (sym c.record.ensures ∙ ap option_copied c.in-Some-Some.is-1) (MatchOption-at_some _ _ _ c.in-Some-Some.is-0 c.fitting.ensures).1 c.has_posted.ensures
