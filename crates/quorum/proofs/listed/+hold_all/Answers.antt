-- The walk over the sets, each taken in turn. Assumes nothing.
use Rattle.std.proofs.Common.{ℕ, ◌-◌, bit_or, sym, ap, ◌∙◌, arith}
use Rattle.std.proofs.lemmas.List.{take_all}
use Rattle.std.proofs.lemmas.List.Folds.{list_any_at}
use Rattle.std.specs.List.{list_any}
use Rattle.quorum.specs.Listing.{held}
use Rattle.quorum.specs.Held.{held_by}
use Rattle.quorum.proofs.listed.+hold_all.Goals as goal

pub returns-then-hold_all : goal.returns-then-hold_all
returns-then-hold_all t c =
    let fits = λ (m : ℕ). held c.args.crew c.args.sets.now (c.args.more - 1) (bit_or c.args.have m) in
    sym (list_any_at fits c.args.sets.now c.loop-set.set-index 0 (omega arith) (sym c.if-hold_all.ensures))
    ∙ held_by c.args.crew c.args.sets.now c.args.have c.args.more c.if-more-eq0.false (λ e. c.if-outside-eq0.false (c.outside.ensures ∙ e))

pub returns : goal.returns
returns t c =
    let fits = λ (m : ℕ). held c.args.crew c.args.sets.now (c.args.more - 1) (bit_or c.args.have m) in
    sym c.loop-set.invariant ∙ ap (list_any fits) (take_all c.loop-set.set-index c.args.sets.now (omega arith))
    ∙ held_by c.args.crew c.args.sets.now c.args.have c.args.more c.if-more-eq0.false (λ e. c.if-outside-eq0.false (c.outside.ensures ∙ e))
