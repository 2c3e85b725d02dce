-- The call is one of the group, which refuses it or tells the turn. Assumes nothing.
use Rattle.std.proofs.Common.{◌≡◌, rules, Some, Option, Result, subst}
use Rattle.std.proofs.lemmas.Result.{err_from_is_err_and}
use Rattle.quorum.specs.Meaning.{either_rule}
use Rattle.quorum.specs.declared.either.EitherRule.{EitherRule}
use Rattle.group.specs.declared.fault.GroupFault.{GroupFault}
use Rattle.group.specs.declared.group.Group.{Group}
use Rattle.group.specs.declared.turn.Turn.{Turn}
use Rattle.group.specs.Calls.{left}
use Rattle.group.specs.Promises.{Plays}
use Rattle.session.proofs.Calling.{refuses, accepts, plays_on}
use Rattle.session.proofs.calls.on.Goals as goal

pub returns-in_err-turn : goal.returns-in_err-turn
returns-in_err-turn g c = λ x makes.
    let before = c.in_ok-group.group.now in
    let after = c.call.new.arg2 in
    let there : ◌≡◌ {A = Option (Group EitherRule)} c.args.group.now (Some before) = search rules in
    let m = makes before after c.call.result (search rules) in
    let p = err_from_is_err_and c.from_residual-in_err-turn.result c.from_residual-in_err-turn.ensures.1 in
    let plays = subst (λ (r : Result Turn GroupFault). Plays (either_rule before.rule) before.terms x before.records after.records (left r after.scratch)) c.in_err-turn.was m.2 in
    plays_on c.args.group.now before after x c.args.board _ there (rw (p.1, p.2) (refuses before after x c.args.board (m.0, m.1) c.in_err-turn.field-0.0 plays))

pub returns : goal.returns
returns g c = λ x makes.
    let before = c.in_ok-group.group.now in
    let after = c.call.new.arg2 in
    let there : ◌≡◌ {A = Option (Group EitherRule)} c.args.group.now (Some before) = search rules in
    let m = makes before after c.call.result (search rules) in
    let plays = subst (λ (r : Result Turn GroupFault). Plays (either_rule before.rule) before.terms x before.records after.records (left r after.scratch)) c.in_ok-turn.was m.2 in
    plays_on c.args.group.now before after x c.args.board _ there (accepts before after x c.args.board (m.0, m.1) _ c.decided.result plays c.decided.ensures)
