use Rattle.std.proofs.Common.{sym, ◌∙◌}
use Rattle.group.proofs.Quiet.{quiet_turn}
use Rattle.group.proofs.turn.written.Goals as goal

pub returns-then-is_empty-clause-value : goal.returns-then-is_empty-clause-value
returns-then-is_empty-clause-value c = quiet_turn c.args.done c.args.slip.posted (sym c.is_empty.ensures ∙ c.if-is_empty.true)
