-- What the readers of numbers say holds of any line, and so of this one. Assumes nothing.
use Rattle.lines.proofs.reading.read.Goals as goal

pub returns-in-115-clause-within : goal.returns-in-115-clause-within
returns-in-115-clause-within c = c.start.ensures.within c.args.line.now

pub returns-in-99-clause-within : goal.returns-in-99-clause-within
returns-in-99-clause-within c = c.carry.ensures.within c.args.line.now
