use Rattle.std.proofs.Common.{Some, refl, sym, ap, ◌∙◌}
use Rattle.std.proofs.lemmas.Result.{err_from_is_err_and}
use Rattle.std.specs.Option.{option_map}
use Rattle.lines.specs.Told.{opening_of}
use Rattle.session.specs.declared.fault.SessionFault.TheVariants.{Group as OfGroup}
use Rattle.session.proofs.Openings.{sizes_some, rule_some, group_asked, opened_shows}
use Rattle.session.proofs.opened.opened.Goals as goal

pub returns-in_err-check_sizes : goal.returns-in_err-check_sizes
returns-in_err-check_sizes c =
    let p = err_from_is_err_and c.from_residual.result c.from_residual.ensures.1 in
    rw (p.1, p.2) (sizes_some (opening_of c.args.plan.now) _ c.in_err-check_sizes.ensures, refl)

pub returns-in_err-rule : goal.returns-in_err-rule
returns-in_err-rule c =
    let p = err_from_is_err_and c.from_residual-in_err-rule.result c.from_residual-in_err-rule.ensures.1 in
    rw (p.1, p.2) (rule_some (opening_of c.args.plan.now) c.in_ok-check_sizes.ensures _ c.in_err-rule.ensures, refl)

-- ---- where a group is open already
pub returns-in_err-reopen-in-Some : goal.returns-in_err-reopen-in-Some
returns-in_err-reopen-in-Some c =
    let p = err_from_is_err_and c.from_residual-in_err-reopen-in-Some.result c.from_residual-in_err-reopen-in-Some.ensures.1 in
    let made = rw c.in_ok-rule.ensures.1 at c.in_err-reopen-in-Some.ensures.opens in
    rw (p.1, p.2) (
      group_asked (opening_of c.args.plan.now) c.in_ok-check_sizes.ensures c.in_ok-rule.ensures.0 c.requires c.asked-opening.result c.asked-opening.ensures
          ∙ ap (option_map OfGroup) made.0,
      ap Some made.1 ∙ sym c.in-Some.is,
    )

pub returns-in_ok-reopen-in-Some : goal.returns-in_ok-reopen-in-Some
returns-in_ok-reopen-in-Some c =
    opened_shows (opening_of c.args.plan.now) c.in_ok-check_sizes.ensures c.in_ok-rule.ensures.0 c.requires c.asked-opening.result c.asked-opening.ensures
    c.reopen.new.self c.in_ok-rule.rule c.in_ok-rule.ensures.1 (rw c.in_ok-rule.ensures.1 at c.in_ok-reopen-in-Some.ensures.opens)

-- ---- where none is
pub returns-in_err-open-in-None : goal.returns-in_err-open-in-None
returns-in_err-open-in-None c =
    let p = err_from_is_err_and c.from_residual-in_err-open-in-None.result c.from_residual-in_err-open-in-None.ensures.1 in
    rw (p.1, p.2) (
      group_asked (opening_of c.args.plan.now) c.in_ok-check_sizes.ensures c.in_ok-rule.ensures.0 c.requires c.asked-opening.result c.asked-opening.ensures
          ∙ ap (option_map OfGroup) (rw c.in_ok-rule.ensures.1 at c.in_err-open-in-None.ensures.opens),
      refl,
    )

pub returns-in_ok-open-in-None : goal.returns-in_ok-open-in-None
returns-in_ok-open-in-None c =
    opened_shows (opening_of c.args.plan.now) c.in_ok-check_sizes.ensures c.in_ok-rule.ensures.0 c.requires c.asked-opening.result c.asked-opening.ensures
    c.in_ok-open-in-None.field-0 c.in_ok-rule.rule c.in_ok-rule.ensures.1 (rw c.in_ok-rule.ensures.1 at c.in_ok-open-in-None.ensures.opens)
