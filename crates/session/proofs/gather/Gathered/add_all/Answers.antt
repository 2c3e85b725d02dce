use Rattle.std.proofs.Common.{◌+◌, ◌++◌, length, arith, List, ℕ, take, sym, ap, ◌∙◌}
use Rattle.std.proofs.lemmas.Bool.{cond-true, cond-false, leb-true}
use Rattle.std.proofs.lemmas.List.{append-nil, take_all, length-append}
use Rattle.fixed.specs.Items.{items_of}
use Rattle.session.proofs.Gathering.{kept_whole, added_more}
use Rattle.session.proofs.gather.Gathered.add_all.Goals as goal

pub returns-then-extend : goal.returns-then-extend
returns-then-extend c =
    let old = items_of c.args.self.now.bytes in
    let fits = leb-true (length old + length c.args.bytes.now) 122 (sym c.extend.ensures.value ∙ c.if-extend.true) in
    c.extend.ensures.items ∙ cond-true _ _ _ c.if-extend.true ∙ sym (take_all 122 (old ++ c.args.bytes.now) (omega (arith, fits, length-append old c.args.bytes.now)))

pub loop-byte-init : goal.loop-byte-init
loop-byte-init c =
    let old = items_of c.args.self.now.bytes in
    c.extend.ensures.items ∙ cond-false _ _ _ c.if-extend.false ∙ sym (take_all 122 old (kept_whole c.args.self.now.bytes)) ∙ ap (take 122) (sym (append-nil old))

pub loop-byte-preserved : goal.loop-byte-preserved
loop-byte-preserved c =
    added_more (items_of c.args.self.now.bytes) (items_of c.loop-byte.self.bytes) (items_of c.add.new.self.bytes) c.args.bytes.now c.loop-byte.byte-index c.loop-byte-test.true c.loop-byte.invariant c.add.ensures.gathers

pub returns : goal.returns
returns c = c.loop-byte.invariant ∙ ap (λ (l : List ℕ). take 122 (items_of c.args.self.now.bytes ++ l)) (take_all c.loop-byte.byte-index c.args.bytes.now c.loop-byte-test.false)
