-- Just one number is the board's. Assumes nothing.
use Rattle.std.proofs.Common.{rules, ◌≡◌, List, Some, None, Option, sym, ap, ℕ}
use Rattle.lines.specs.Lines.{readable, start_with}
use Rattle.numerals.specs.Numerals.{number_in}
use Rattle.lines.proofs.Fields.{one_read, none_single, not_one}
use Rattle.lines.proofs.numeric.start.Goals as goal

pub returns-in_err-number-clause-call : goal.returns-in_err-number-clause-call
returns-in_err-number-clause-call c = λ line.
    let none : number_in c.args.body.now ≡ None = search rules in
    let h = none_single start_with not_one c.args.body.now none in search rules

pub returns-clause-call : goal.returns-clause-call
returns-clause-call c = λ line.
    let one : number_in c.args.body.now ≡ Some c.in_ok-number.field-0 = search rules in
    ap (λ (o : Option (List ℕ)). readable o start_with) (sym (one_read c.args.body.now c.in_ok-number.field-0 one))
