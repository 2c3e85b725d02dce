-- The comma stands in the first six bytes, or no number stands before it. Assumes nothing.
use Rattle.std.proofs.Common.{rules, ℕ, eqb, ◌≡◌, ◌+◌, ◌-◌, ◌∙◌, ◌<◌, ◌≤◌, length, take, drop, Some, None, Option, ap, arith, length-drop}
use Rattle.std.proofs.lemmas.List.{take_all}
use Rattle.std.specs.List.{position}
use Rattle.numerals.specs.Numerals.{comma, and_then, number_in}
use Rattle.numerals.specs.Parts.{field_in}
use Rattle.numerals.proofs.Fields.{cut_at, none_near, one_near}
use Rattle.numerals.proofs.field.read_field.Goals as goal
use Rattle.numerals.proofs.field.read_field.Goals.{In_ok-comma}

pub returns-in_err-comma : goal.returns-in_err-comma
returns-in_err-comma c =
    let enough : c.min.result < length c.args.bytes.now → 6 ≤ c.min.result = search rules in
    let none : None ≡ position (λ b. eqb b comma) (take c.min.result c.args.bytes.now) = search rules in
    let h = none_near c.args.bytes.now c.min.result enough none in search rules

-- the comma that is found is the first of all the bytes
found : (c : In_ok-comma) → cut_at c.args.bytes.now (Some c.in_ok-comma.comma) ≡ field_in c.args.bytes.now
found c =
    let enough : c.min.result < length c.args.bytes.now → 6 ≤ c.min.result = search rules in
    let one : Some c.in_ok-comma.comma ≡ position (λ b. eqb b comma) (take c.min.result c.args.bytes.now) = search rules in
    one_near c.args.bytes.now c.min.result enough c.in_ok-comma.comma one

pub returns-in_err-number : goal.returns-in_err-number
returns-in_err-number c =
    let none : None ≡ number_in (take c.in_ok-comma.comma c.args.bytes.now) = search rules in
    let no_field : None ≡ field_in c.args.bytes.now = ap (λ (o : Option ℕ). and_then o (λ v. Some (v, drop (c.in_ok-comma.comma + 1) c.args.bytes.now))) none ∙ found (goal.at.returns-in_err-number c).In_ok-comma in
    search rules

pub returns : goal.returns
returns c =
    let bs = c.args.bytes.now in
    let i = c.in_ok-comma.comma in
    let v = c.in_ok-number.field-0 in
    let one : Some v ≡ number_in (take i bs) = search rules in
    let rest : take (length bs - (i + 1)) (drop (i + 1) bs) ≡ drop (i + 1) bs = take_all _ _ (omega (arith, length-drop (i + 1) bs)) in
    ap (λ r. Some (v, r)) rest ∙ ap (λ (o : Option ℕ). and_then o (λ w. Some (w, drop (i + 1) bs))) one ∙ found (goal.at.returns c).In_ok-comma
