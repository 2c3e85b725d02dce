use Rattle.std.proofs.Common.{None, sym, refl, ap, ◌∙◌}
use Rattle.board.specs.Started.{posted_of}
use Rattle.board.proofs.Words.{accepted}
use Rattle.board.proofs.fit.Fitting.take.Goals as goal

pub returns-in-None-clause-accepted : goal.returns-in-None-clause-accepted
returns-in-None-clause-accepted g c =
    accepted (g.R.FailureRule.meaning c.args.rule.now) c.args.self.now.fit c.args.port c.args.bytes.now _ _ _ _ c.in_ok-word.word None (sym c.in_ok-word.ensures) c.in-None.ensures refl (c.slip.ensures ∙ ap (posted_of c.args.self.now.fit) c.none.ensures)

pub returns-in-Some-clause-accepted : goal.returns-in-Some-clause-accepted
returns-in-Some-clause-accepted g c =
    accepted (g.R.FailureRule.meaning c.args.rule.now) c.args.self.now.fit c.args.port c.args.bytes.now _ _ _ _ c.in_ok-word.word _ (sym c.in_ok-word.ensures) c.in-Some.ensures refl c.slip-in-Some.ensures
