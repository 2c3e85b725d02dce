-- By the definition of what is due of the test 7. Assumes nothing.
use Rattle.std.proofs.Common.{◌≡◌, false, not, ◌&&◌, eqb, sym, refl, ◌∙◌}
use Rattle.std.proofs.lemmas.Bool.{and_right}
use Rattle.vote.specs.Search.{given}
use Rattle.heard.proofs.Tested.{verdict_own, verdict_held}
use Rattle.heard.proofs.counted.Heard.verdict.Goals as goal
use Rattle.heard.proofs.counted.Heard.verdict.Goals.{else-vote-ne0-via-then-vote-ne0+else-is_some, else-vote-ne0-via-else-vote-ne0}

pub returns-then-is_some : goal.returns-then-is_some
returns-then-is_some g c = λ d x e.
    verdict_own c.args.voting.now c.args.self.now d x e c.args.vote c.if-vote-ne0.true (c.shared.ensures d x e) c.decision-own.ensures (sym c.is_some.ensures ∙ c.if-is_some.true)

pub returns : goal.returns
returns g c = λ d x e.
    let few : (not (eqb c.args.vote.value 0) && given c.decision-own.result) ≡ false = elim c.else-vote-ne0.branch [
      | else-vote-ne0-via-then-vote-ne0+else-is_some k ↦ and_right _ _ (sym k.is_some.ensures ∙ k.if-is_some.false)
      | else-vote-ne0-via-else-vote-ne0 k ↦ rw (k.if-vote-ne0.false) refl
    ] in
    verdict_held c.args.voting.now c.args.self.now d x e c.args.vote (c.shared.ensures d x e) c.decision-own.ensures few (c.held.ensures d x e) c.or.ensures
