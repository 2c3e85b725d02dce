use Rattle.board.proofs.Steps.{posted_by_plain, posted_by_echo}
use Rattle.board.proofs.Slips.{characters_low, start_below}
use Rattle.board.proofs.fit.Fitting.has_posted.Goals as goal

pub returns-in-Gathers : goal.returns-in-Gathers
returns-in-Gathers c R h shown =
    posted_by_plain R c.args.self.now.fit c.args.state.now c.in-Gathers.plain c.args.kind c.args.value c.has_posted.result c.in-Gathers.is c.has_posted.ensures h shown

pub returns-in-Echoes : goal.returns-in-Echoes
returns-in-Echoes c R h shown =
    let f = c.args.self.now.fit in
    posted_by_echo R f c.args.state.now c.in-Echoes.echo c.args.kind c.args.value c.has_posted-in-Echoes.result
    (start_below f c.args.self.now.sound) (characters_low f c.args.self.now.sound) c.in-Echoes.is c.has_posted-in-Echoes.ensures h shown
