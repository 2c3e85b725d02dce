use Rattle.std.proofs.lemmas.Option.{MatchOption-at_some}
use Rattle.group.proofs.Shown.{records_take}
use Rattle.group.proofs.group.Group.take.Goals as goal

pub returns-clause-takes : goal.returns-clause-takes
returns-clause-takes g c h shown l on =
    records_take (g.R.FailureRule.meaning c.args.self.now.rule) c.args.self.now.terms h c.args.self.now.records c.args.to c.args.port c.args.bytes.now
    c.in_ok-fitting.fitting.fit _ c.taken.new.slot _ l on (MatchOption-at_some _ _ _ c.in_ok-fitting.ensures.ok_part c.fitting.ensures).1 c.taken.ensures.takes shown
