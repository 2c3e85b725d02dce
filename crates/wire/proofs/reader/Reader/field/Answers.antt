use Rattle.std.proofs.Common.{◌≡◌, true, false, sym, ◌∙◌, arith}
use Rattle.wire.specs.Fields.{is_within}
use Rattle.wire.proofs.FieldRead.{field_beyond, field_out, field_good}
use Rattle.wire.proofs.reader.Reader.field.Goals as goal
use Rattle.wire.proofs.reader.Reader.field.Goals.{in_default-via-in-Some+else-contains, in_default-via-in_default}

pub returns-in-Some-clause-value : goal.returns-in-Some-clause-value
returns-in-Some-clause-value c =
    let inside : is_within c.args.low c.args.high c.in-Some.number ≡ true = grind arith in
    field_good c.args.self.now.bytes.now c.args.self.now.place c.args.low c.args.high c.digits.result c.digits.ensures
    (sym c.zero_leads.ensures ∙ c.if-zero_leads.false) c.in-Some.number c.in-Some.len c.in-Some.is c.in-Some.len-test.1 inside

pub returns-in_default-clause-value : goal.returns-in_default-clause-value
returns-in_default-clause-value c = elim c.in_default.branch [
  | in_default-via-in-Some+else-contains w ↦
      let outside : is_within c.args.low c.args.high w.in-Some.number ≡ false = grind arith in
      field_out c.args.self.now.bytes.now c.args.self.now.place c.args.low c.args.high c.digits.result c.digits.ensures
      (sym c.zero_leads.ensures ∙ c.if-zero_leads.false) w.in-Some.number w.in-Some.len w.in-Some.is w.in-Some.len-test.1 outside
  | in_default-via-in_default w ↦
      field_beyond c.args.self.now.bytes.now c.args.self.now.place c.args.low c.args.high c.digits.result c.digits.ensures
      (sym c.zero_leads.ensures ∙ c.if-zero_leads.false) (omega arith) w.in_default.is
]
