use Rattle.std.proofs.Common.{refl}
use Rattle.group.proofs.Accepted.{opened, first_records}
use Rattle.group.proofs.group.Group.open.Goals as goal

pub returns-clause-opens : goal.returns-clause-opens
returns-clause-opens g c =
    let R = g.R.FailureRule.meaning c.args.rule in
    let t = c.in_ok-terms.terms in
    let k = c.in_ok-terms.ensures in
    (k.0, refl, k.1, record { opened = opened R c.args.opening.now k.0 t k.1; shown = first_records R t })
