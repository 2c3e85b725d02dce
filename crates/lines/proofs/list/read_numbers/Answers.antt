-- Each part takes the reading a step on, and none is read beyond the room. Assumes nothing.
-- `part_read` and `all_read` of `numerals` say what a part does to the numbers, and the rest names the records of this function.
use Rattle.std.proofs.Common.{rules, tests, ℕ, eqb, ◌≡◌, ◌+◌, ◌∙◌, [], ◌∷◌, ◌++◌, length, drop, Some, None, Option, sym, ap, ap₂, arith}
use Rattle.std.proofs.lemmas.List.{length_push}
use Rattle.std.proofs.lemmas.Iterator.Consumers.{YieldsList-turn, YieldsList-end}
use Rattle.std.proofs.lemmas.Iterator.Splits.{YieldsList-from_slice_split}
use Rattle.fixed.specs.Items.{items_of}
use Rattle.numerals.specs.Numerals.{comma, and_then, number_in, parts, numbers_in}
use Rattle.numerals.proofs.Reading.{after, none_read, part_read, all_read}
use Rattle.lines.proofs.Room.{too_many}
use Rattle.lines.proofs.list.read_numbers.Goals as goal
use Rattle.lines.proofs.list.read_numbers.Goals.{In-Some}

-- what the part at hand writes goes behind the numbers so far
read : (c : In-Some) (o : Option ℕ) → o ≡ number_in c.in-Some.part.now
    → and_then o (λ w. after (items_of c.loop-part.done ++ w ∷ []) (drop (length c.loop-part.yielded + 1) (parts c.args.bytes.now))) ≡ numbers_in c.args.bytes.now
read c o told =
    let e = YieldsList-from_slice_split _ (λ b. eqb b comma) c.args.bytes.now (search rules) (search rules) (search rules) (λ x r q k. search (rules, tests)) in
    let t = YieldsList-turn e c.loop-part.yielded _ c.loop-part.yielded_by _ _ c.in-Some.part c.in-Some.is c.next.ensures.steps in
    part_read c.args.bytes.now (length c.loop-part.yielded) (items_of c.loop-part.done) c.loop-part.invariant c.in-Some.part.now t o told

pub loop-part-init : goal.loop-part-init
loop-part-init c = ap (λ vs. after vs (parts c.args.bytes.now)) c.new-done.ensures ∙ none_read c.args.bytes.now

pub returns-in_err-number : goal.returns-in_err-number
returns-in_err-number c =
    let h : None ≡ numbers_in c.args.bytes.now = read (goal.at.returns-in_err-number c).In-Some None (sym c.in_err-number.was ∙ c.number.ensures) in
    search rules

pub loop-part-preserved : goal.loop-part-preserved
loop-part-preserved c =
    let p : items_of c.push.new.self ≡ items_of c.loop-part.done ++ c.in_ok-number.field-0 ∷ [] = search rules in
    ap₂ (λ vs n. after vs (drop n (parts c.args.bytes.now))) p (length_push c.loop-part.yielded c.in-Some.part)
    ∙ read (goal.at.loop-part-preserved c).In-Some (Some c.in_ok-number.field-0) (sym c.in_ok-number.was ∙ c.number.ensures)

pub returns-in_err-ok : goal.returns-in_err-ok
returns-in_err-ok c =
    let full : length (items_of c.loop-part.done) ≡ 60 = search rules in
    let h : numbers_in c.args.bytes.now ≡ None = too_many c.args.bytes.now c.requires (items_of c.loop-part.done) full c.in_ok-number.field-0 (drop (length c.loop-part.yielded + 1) (parts c.args.bytes.now))
    (read (goal.at.returns-in_err-ok c).In-Some (Some c.in_ok-number.field-0) (sym c.in_ok-number.was ∙ c.number.ensures)) in
    search rules

pub returns : goal.returns
returns c =
    let e = YieldsList-from_slice_split _ (λ b. eqb b comma) c.args.bytes.now (search rules) (search rules) (search rules) (λ x r q k. search (rules, tests)) in
    let t = YieldsList-end e c.loop-part.yielded _ c.loop-part.yielded_by _ _ c.in-None.is c.next.ensures.steps in
    sym (all_read c.args.bytes.now (length c.loop-part.yielded) (items_of c.loop-part.done) c.loop-part.invariant (omega (arith, t.1)))
