-- The first line feed parts the input, or there is none. Assumes nothing.
use Rattle.std.proofs.Common.{◌≡◌, ℕ, ◌+◌, ◌≤◌, cond, ltb, length, take, drop, Some, None, sym, ap, ◌∙◌, rules, tests, arith}
use Rattle.std.proofs.lemmas.Grind.{common_steps}
use Rattle.std.proofs.lemmas.List.{take_all, take_rest, drop_all}
use Rattle.std.proofs.lemmas.Iterator.{YieldsList-from_slice}
use Rattle.std.proofs.lemmas.Iterator.Search.{position_from_yields_List}
use Rattle.std.specs.List.{position_or_len}
use Rattle.rule_check.specs.Lines.{is_feed}
use Rattle.rule_check.proofs.lines.first_line.Goals as goal

found : (m l n : ℕ) → Some n ≡ cond (ltb m l) (Some m) None → n ≡ m
found m l n e = grind (arith, common_steps)

missed : (m l : ℕ) → None ≡ cond (ltb m l) (Some m) None → l ≤ m
missed m l e = grind (arith, common_steps)

pub returns-in-Some : goal.returns-in-Some
returns-in-Some c =
    let xs = c.args.input.now in
    let told = position_from_yields_List is_feed _ _ c.position.result c.position.ensures.ran (YieldsList-from_slice xs cc) (λ x b q k. search (rules, tests)) in
    let e = found (position_or_len is_feed xs) (length xs) c.in-Some.n (sym c.in-Some.is ∙ told) in
    (search rules, ap (λ k. take k xs) e, take_rest xs (c.in-Some.n + 1) ∙ ap (λ k. drop (k + 1) xs) e)

pub returns-in-None : goal.returns-in-None
returns-in-None c =
    let xs = c.args.input.now in
    let told = position_from_yields_List is_feed _ _ c.position.result c.position.ensures.ran (YieldsList-from_slice xs cc) (λ x b q k. search (rules, tests)) in
    let e = missed (position_or_len is_feed xs) (length xs) (sym c.in-None.is ∙ told) in
    (search rules, sym (take_all (position_or_len is_feed xs) xs e), sym (drop_all (position_or_len is_feed xs + 1) xs (omega arith)))
