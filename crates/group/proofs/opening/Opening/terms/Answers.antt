use Rattle.std.proofs.Common.{refl, rules, arith}
use Rattle.group.proofs.Accepted.{passed, terms_kept, starts_settled}
use Rattle.group.proofs.opening.Opening.terms.Goals as goal

pub invariant_of-result : goal.invariant_of-result
invariant_of-result g c =
    let n = c.crew-crew.result in
    let o = c.args.self.now in
    let k = passed (g.R.FailureRule.meaning c.args.rule.now) o n c.crew-crew.ensures c.in_ok-depth.ensures.0 c.in_ok-group.ensures.0 c.if-not-all_characters.ensures c.if-not-may_fail.ensures (search rules) in
    record { sound = terms_kept n o k.1 _ _ _ _ c.in_ok-depth.ensures.1.1 c.in_ok-group.ensures.1.0 c.in_ok-group.ensures.1.1 c.own_starts.ensures }

pub returns : goal.returns
returns g c =
    let n = c.crew-crew.result in
    let o = c.args.self.now in
    let k = passed (g.R.FailureRule.meaning c.args.rule.now) o n c.crew-crew.ensures c.in_ok-depth.ensures.0 c.in_ok-group.ensures.0 c.if-not-all_characters.ensures c.if-not-may_fail.ensures (search rules) in (
      k.0,
      record {
        method = refl;
        depth = c.in_ok-depth.ensures.1.0;
        characters = c.in_ok-depth.ensures.1.1;
        group = c.in_ok-group.ensures.1.0;
        change = c.in_ok-group.ensures.1.1;
        listed = refl;
        starts = λ i l. starts_settled n o k.1 c.own_starts.result c.own_starts.ensures i (omega (arith, l));
      },
    )
