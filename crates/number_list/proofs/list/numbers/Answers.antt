-- Each field takes the reading a step on, and what no field leads is the last number. Assumes nothing.
use Rattle.std.proofs.Common.{rules, ℕ, ◌≡◌, ◌∙◌, List, [], ◌∷◌, ◌++◌, Some, None, Option, vec_items, sym, ap}
use Rattle.numerals.specs.Numerals.{and_then, number_in, numbers_in}
use Rattle.numerals.specs.Parts.{field_in}
use Rattle.numerals.proofs.Fields.{led, field_led, last_led}
use Rattle.number_list.proofs.list.numbers.Goals as goal
use Rattle.number_list.proofs.list.numbers.Goals.{In_default}

-- what is left, where no field leads it, is read to the end
last : (c : In_default) (o : Option ℕ) → o ≡ number_in c.loop-value.left.now → and_then o (λ v. Some (vec_items c.loop-value.done ++ v ∷ [])) ≡ numbers_in c.args.bytes.now
last c =
    let none : None ≡ field_in c.loop-value.left.now = search rules in
    last_led (vec_items c.loop-value.done) c.loop-value.left.now (numbers_in c.args.bytes.now) c.loop-value.invariant none

pub loop-value-preserved : goal.loop-value-preserved
loop-value-preserved c =
    let one : Some (c.in-Some.value, c.in-Some.behind.now) ≡ field_in c.loop-value.left.now = search rules in
    ap (λ vs. led vs (numbers_in c.in-Some.behind.now)) c.in_ok-push.ensures.items
    ∙ field_led (vec_items c.loop-value.done) c.loop-value.left.now (numbers_in c.args.bytes.now) c.loop-value.invariant (c.in-Some.value, c.in-Some.behind.now) one

pub returns-in_default-number : goal.returns-in_default-number
returns-in_default-number c = sym (last (goal.at.returns-in_default-number c).In_default None c.in_default-number.ensures)

pub returns : goal.returns
returns c =
    sym (ap {B = Option (List ℕ)} Some c.in_ok-push-2.ensures.items ∙ last (goal.at.returns c).In_default (Some c.in-Some-number.value) c.in-Some-number.ensures)
