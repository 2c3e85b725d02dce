-- Each set is looked at. Assumes nothing.
use Rattle.std.proofs.Common.{ℕ, ◌%◌, eqb, ◌∙◌, rules, tests, arith}
use Rattle.std.proofs.lemmas.Iterator.{YieldsList-from_slice}
use Rattle.std.proofs.lemmas.Iterator.Search.{all_from_yields_List}
use Rattle.wire.proofs.Counting.{none_posted_is}
use Rattle.wire.proofs.posted.Posted.is_empty.Goals as goal

pub returns : goal.returns
returns c =
    let kinds = c.args.self.now.kinds in
    all_from_yields_List (λ (m : ℕ). eqb (m % 512) 0) _ _ _ c.all.ensures.ran (YieldsList-from_slice kinds cc) (λ x b q k. search (rules, tests)) ∙ none_posted_is c.args.self.now (omega arith)
