use Rattle.std.proofs.Common.{sym, ◌∙◌}
use Rattle.std.proofs.lemmas.Result.{IfOk-at_ok}
use Rattle.board.proofs.Slips.{characters_low}
use Rattle.group.proofs.Boards.{kept_ok, board_takes}
use Rattle.group.proofs.taking.taken.Goals as goal

pub returns-clause-takes : goal.returns-clause-takes
returns-clause-takes g c h shown =
    let f = c.args.fitting.now.fit in
    let accepts = IfOk-at_ok _ (kept_ok _ _ _ _ c.map_err.ensures.cases c.in_ok-taken.was) c.take.ensures.accepted in
    board_takes (g.R.FailureRule.meaning c.args.rule.now) f c.args.port c.args.bytes.now c.in-Some.record c.take.new.state c.in_ok-taken.taken
    c.in_ok-taken.slip.posted c.into.result c.written.result _ c.map_err-2.result _ accepts (g.met.R.FailureRule.lawful c.args.rule.now)
    (characters_low f c.args.fitting.now.sound) c.into.ensures c.written.ensures.value c.written.ensures.fits c.map_err-2.ensures.cases h (sym c.in-Some.is ∙ shown)
