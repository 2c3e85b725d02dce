use Rattle.session.proofs.Gathering.{gathered}
use Rattle.session.proofs.gather.Gathered.add.Goals as goal

pub returns-clause-gathers : goal.returns-clause-gathers
returns-clause-gathers c = gathered c.push.result c.args.self.now.bytes c.push.new.self c.args.byte c.push.ensures
