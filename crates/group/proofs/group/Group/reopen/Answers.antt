use Rattle.std.proofs.Common.{◌≡◌, rules, List, None, Option, replicate, refl, ap, ◌∙◌}
use Rattle.board.specs.declared.record.Record.{Record}
use Rattle.group.proofs.Accepted.{opened, first_records}
use Rattle.group.proofs.group.Group.reopen.Goals as goal

pub returns-clause-opens : goal.returns-clause-opens
returns-clause-opens g c =
    let R = g.R.FailureRule.meaning c.args.rule in
    let t = c.in_ok-self.field-0 in
    let k = c.in_ok-self.ensures in
    let none : c.fill.new.self ≡ replicate 16 None = search rules in (
      k.0,
      refl,
      k.1,
      record {
        opened = opened R c.args.opening.now k.0 t k.1;
        shown = ap (λ (os : List (Option Record)). record { boards = os }) none ∙ first_records R t;
      },
    )
