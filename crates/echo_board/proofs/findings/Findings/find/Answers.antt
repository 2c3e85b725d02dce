-- The seven tests, at either depth. Assumes nothing.
use Rattle.std.proofs.Common.{◌||◌, Bool, eqb, sym, ap, ◌∙◌, rules, tests}
use Rattle.std.proofs.lemmas.Bool.{cond-true, cond-false, eq-eqb, ne_eqb}
use Rattle.echo_board.proofs.Memory.{else_made, found_one, found_two}
use Rattle.echo_board.proofs.findings.Findings.find.Goals as goal
use Rattle.echo_board.proofs.findings.Findings.find.Goals.{then-vote-eq-ECHO, else-vote-eq-ECHO}

pub returns-in-One : goal.returns-in-One
returns-in-One g c = λ x e.
    let o = c.args.self.now in
    let w = c.args.vote in
    let few = c.approves-approves.ensures c.args.voting.now.depth x e in
    found_one (g.R.FailureRule.meaning c.args.voting.now.rule.now) c.args.voting.now.characters x o c.args.voting.now.depth w c.in-One.is
    (elim c.if-vote-eq-ECHO.branch [
      | then-vote-eq-ECHO k ↦ k.echoes-is ∙ k.echoes-echoes.ensures c.args.voting.now.depth x e ∙ sym (cond-true _ _ _ (eq-eqb w.kind 1 k.if-vote-eq-ECHO.true))
      | else-vote-eq-ECHO k ↦ k.echoes-is ∙ sym (cond-false _ _ _ (ne_eqb w.kind 1 k.if-vote-eq-ECHO.false))
    ])
    (else_made o.second _ _ c.held_or-second.ensures (λ k. search (rules, tests)) few)
    (else_made o.third _ _ c.held_or-third.ensures (λ k. search (rules, tests)) (c.is_due.ensures ∙ ap (λ (a : Bool). a || eqb w.kind 2) few))
    (else_made o.decision _ _ c.held_or.ensures (λ k. search (rules, tests)) (c.is_due-in-One.ensures ∙ ap (λ (a : Bool). a || eqb w.kind 3) few))

pub returns-in-Two : goal.returns-in-Two
returns-in-Two g c = λ x e.
    let o = c.args.self.now in
    let w = c.args.vote in
    let few = c.approves-approves.ensures c.args.voting.now.depth x e in
    found_two (g.R.FailureRule.meaning c.args.voting.now.rule.now) c.args.voting.now.characters x o c.args.voting.now.depth w c.in-Two.is
    (elim c.if-vote-eq-ECHO.branch [
      | then-vote-eq-ECHO k ↦ k.echoes-is ∙ k.echoes-echoes.ensures c.args.voting.now.depth x e ∙ sym (cond-true _ _ _ (eq-eqb w.kind 1 k.if-vote-eq-ECHO.true))
      | else-vote-eq-ECHO k ↦ k.echoes-is ∙ sym (cond-false _ _ _ (ne_eqb w.kind 1 k.if-vote-eq-ECHO.false))
    ])
    (else_made o.second _ _ c.held_or-second.ensures (λ k. search (rules, tests)) few)
    (else_made o.third _ _ c.held_or-third.ensures (λ k. search (rules, tests)) (c.is_due.ensures ∙ ap (λ (a : Bool). a || eqb w.kind 2) few))
    (else_made o.fourth _ _ c.held_or-in-Two.ensures (λ k. search (rules, tests)) (c.is_due-in-Two.ensures ∙ ap (λ (a : Bool). a || eqb w.kind 3) few))
    (else_made o.fifth _ _ c.held_or-in-Two-2.ensures (λ k. search (rules, tests)) (c.is_due-in-Two-2.ensures ∙ ap (λ (a : Bool). a || eqb w.kind 4) few))
    (else_made o.decision _ _ c.held_or-in-Two-3.ensures (λ k. search (rules, tests)) (c.is_weighed.ensures ∙ ap (λ (a : Bool). a || (eqb w.kind 4 || eqb w.kind 5)) few))
