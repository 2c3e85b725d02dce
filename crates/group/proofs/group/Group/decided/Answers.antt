use Rattle.std.proofs.Common.{option_copied, sym, ap, ◌∙◌}
use Rattle.group.proofs.Decided.{decided_told, none_decided}
use Rattle.group.proofs.group.Group.decided.Goals as goal

pub returns-in_err-record : goal.returns-in_err-record
returns-in_err-record g c xs reached =
    let law = g.met.R.FailureRule.lawful c.args.self.now.rule in (
      c.from_residual.ensures ∙ none_decided law c.args.self.now.records c.args.board xs reached (sym c.record.ensures ∙ ap option_copied c.in_err-record.was),
      λ l. c.from_residual.ensures,
    )

pub returns : goal.returns
returns g c xs reached =
    decided_told (g.met.R.FailureRule.lawful c.args.self.now.rule) c.args.self.now.records c.args.board xs reached c.in_ok-record.field-0.now c.decided.result
    (sym c.record.ensures ∙ ap option_copied c.in_ok-record.was) c.decided.ensures
