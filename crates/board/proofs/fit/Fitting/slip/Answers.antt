use Rattle.board.proofs.Slips.{never_refused}
use Rattle.board.proofs.fit.Fitting.slip.Goals as goal

pub unreachable-requires : goal.unreachable-requires
unreachable-requires c =
    never_refused c.args.self.now.fit c.args.self.now.sound c.args.news c.holding.result c.in_default.field-0 c.holding.ensures c.in_default.is
