-- Just four numbers are to, from, kind and value. Assumes nothing.
use Rattle.std.proofs.Common.{rules, ◌≡◌, ◌∙◌, ℕ, List, ◌∷◌, Some, None, Option, sym, refl, ap, arith}
use Rattle.lines.specs.Calls.{Call}
use Rattle.lines.specs.Lines.{readable, carry_with}
use Rattle.numerals.specs.Numerals.{number_in, numbers_in}
use Rattle.numerals.specs.Parts.{field_in}
use Rattle.lines.proofs.Fields.{one_read, field_first, none_single, none_led, not_four}
use Rattle.lines.proofs.numeric.carry.Goals as goal
use Rattle.lines.proofs.numeric.carry.Goals.{In_ok-to, In_ok-from, In_ok-kind}

-- what is made of the numbers that were read and of those behind them is made of all
abbrev Behind : List ℕ → (List ℕ → List ℕ) → List ℕ → Type 0
Behind rest led body = (call : List ℕ → Call) → readable (numbers_in rest) (λ vs. call (led vs)) ≡ readable (numbers_in body) call

one_more : (body rest : List ℕ) (led : List ℕ → List ℕ) (f : ℕ × List ℕ) → Some f ≡ field_in rest → Behind rest led body → Behind f.1 (λ vs. led (f.0 ∷ vs)) body
one_more body rest led f next behind call = field_first rest f (λ vs. call (led vs)) next ∙ behind call

behind_to : (c : In_ok-to) → Behind c.in_ok-to.rest.now (λ vs. c.in_ok-to.to ∷ vs) c.args.body.now
behind_to c = one_more c.args.body.now c.args.body.now (λ vs. vs) (c.in_ok-to.to, c.in_ok-to.rest.now) (search rules) (λ call. refl)

behind_from : (c : In_ok-from) → Behind c.in_ok-to.rest.now (λ vs. c.in_ok-to.to ∷ vs) c.args.body.now → Behind c.in_ok-from.rest.now (λ vs. c.in_ok-to.to ∷ c.in_ok-from.from ∷ vs) c.args.body.now
behind_from c = one_more c.args.body.now c.in_ok-to.rest.now (λ vs. c.in_ok-to.to ∷ vs) (c.in_ok-from.from, c.in_ok-from.rest.now) (search rules)

behind_kind : (c : In_ok-kind) → Behind c.in_ok-from.rest.now (λ vs. c.in_ok-to.to ∷ c.in_ok-from.from ∷ vs) c.args.body.now
    → Behind c.in_ok-kind.rest.now (λ vs. c.in_ok-to.to ∷ c.in_ok-from.from ∷ c.in_ok-kind.kind ∷ vs) c.args.body.now
behind_kind c = one_more c.args.body.now c.in_ok-from.rest.now (λ vs. c.in_ok-to.to ∷ c.in_ok-from.from ∷ vs) (c.in_ok-kind.kind, c.in_ok-kind.rest.now) (search rules)

pub returns-in_err-to-clause-call : goal.returns-in_err-to-clause-call
returns-in_err-to-clause-call c = λ line.
    let none : None ≡ field_in c.args.body.now = search rules in
    let h = none_led carry_with (λ vs few. not_four vs (λ e. omega arith)) c.args.body.now none in search rules

pub returns-in_err-from-clause-call : goal.returns-in_err-from-clause-call
returns-in_err-from-clause-call c = λ line.
    let to = c.in_ok-to.to in
    let none : None ≡ field_in c.in_ok-to.rest.now = search rules in
    let h = none_led (λ vs. carry_with (to ∷ vs)) (λ vs few. not_four (to ∷ vs) (λ e. omega arith)) c.in_ok-to.rest.now none
    ∙ behind_to (goal.at.returns-in_err-from-clause-call c).In_ok-to carry_with in search rules

pub returns-in_err-kind-clause-call : goal.returns-in_err-kind-clause-call
returns-in_err-kind-clause-call c = λ line.
    let at = goal.at.returns-in_err-kind-clause-call c in
    let to = c.in_ok-to.to in
    let from = c.in_ok-from.from in
    let none : None ≡ field_in c.in_ok-from.rest.now = search rules in
    let h = none_led (λ vs. carry_with (to ∷ from ∷ vs)) (λ vs few. not_four (to ∷ from ∷ vs) (λ e. omega arith)) c.in_ok-from.rest.now none
    ∙ behind_from at.In_ok-from (behind_to at.In_ok-to) carry_with in search rules

pub returns-in_err-number-clause-call : goal.returns-in_err-number-clause-call
returns-in_err-number-clause-call c = λ line.
    let at = goal.at.returns-in_err-number-clause-call c in
    let to = c.in_ok-to.to in
    let from = c.in_ok-from.from in
    let kind = c.in_ok-kind.kind in
    let none : number_in c.in_ok-kind.rest.now ≡ None = search rules in
    let h = none_single (λ vs. carry_with (to ∷ from ∷ kind ∷ vs)) (λ vs other. not_four (to ∷ from ∷ kind ∷ vs) (λ e. other (omega arith))) c.in_ok-kind.rest.now none
    ∙ behind_kind at.In_ok-kind (behind_from at.In_ok-from (behind_to at.In_ok-to)) carry_with in search rules

pub returns-clause-call : goal.returns-clause-call
returns-clause-call c = λ line.
    let at = goal.at.returns-clause-call c in
    let last : number_in c.in_ok-kind.rest.now ≡ Some c.in_ok-number.field-0 = search rules in
    ap (λ (o : Option (List ℕ)). readable o (λ vs. carry_with (c.in_ok-to.to ∷ c.in_ok-from.from ∷ c.in_ok-kind.kind ∷ vs))) (sym (one_read c.in_ok-kind.rest.now c.in_ok-number.field-0 last))
    ∙ behind_kind at.In_ok-kind (behind_from at.In_ok-from (behind_to at.In_ok-to)) carry_with
