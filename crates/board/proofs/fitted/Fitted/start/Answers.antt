use Rattle.board.specs.Shown.{setting_of}
use Rattle.board.specs.Laws.{BoardKeeps}
use Rattle.board.proofs.Kept.{method_facts}
use Rattle.board.proofs.Six.{six_words}
use Rattle.board.proofs.Slips.{characters_low}
use Rattle.board.proofs.fitted.Fitted.start.Goals as goal

pub returns-clause-keeps : goal.returns-clause-keeps
unfolding BoardKeeps
returns-clause-keeps g c =
    let f = c.args.self.fitting.fit in
    let R = g.R.FailureRule.meaning c.args.self.rule in
    let law = g.met.R.FailureRule.lawful c.args.self.rule in
    (method_facts f.method (setting_of R f) f.start law, six_words R f law (characters_low f c.args.self.fitting.sound))
