use Rattle.board.proofs.Steps.{told_by_plain, told_by_echo}
use Rattle.board.proofs.record.Record.decided.Goals as goal

pub returns-in-Gathers : goal.returns-in-Gathers
returns-in-Gathers c R f = told_by_plain R f c.args.self.now c.in-Gathers.plain c.decided.result c.in-Gathers.is c.decided.ensures

pub returns-in-Echoes : goal.returns-in-Echoes
returns-in-Echoes c R f = told_by_echo R f c.args.self.now c.in-Echoes.echo c.decided-in-Echoes.result c.in-Echoes.is c.decided-in-Echoes.ensures
