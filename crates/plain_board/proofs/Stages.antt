-- The stage that a vote more leads to, from each stage and by the vote's kind. Assumes nothing.
use Rattle.std.proofs.Common.{◌≡◌, ℕ, List, ◌∷◌, Some, None, Option, sym, refl, ap₂}
use Rattle.vote.specs.declared.Decision.{Decision}
use Rattle.vote.specs.declared.Vote.{Vote}
use Rattle.vote.specs.History.{seen}
use Rattle.vote.specs.Setting.{Setting}
use Rattle.agreement.specs.Plain.{branch, decided}
use Rattle.agreement.proofs.Plain.Branches.{branch_more}
use Rattle.plain_board.specs.declared.stage.Stage.{Stage}
use Rattle.plain_board.specs.declared.stage.Stage.TheVariants.{Gathering, Comparing, Decided}
use Rattle.plain_board.specs.Shown.{stage_of}
use Rattle.plain_board.specs.Read.{verdict_on}
use Rattle.plain_board.proofs.Memory.{undecided, decision_next, decision_stays, decision_waits}

-- a board is at the stage that its branch and its decision say
pub at_gathering : (o : Option ℕ) (p : Option Decision) → stage_of o p ≡ Gathering → o ≡ None
at_gathering None p e = refl
at_gathering (Some b) None e = cc
at_gathering (Some b) (Some d) e = cc

pub at_comparing : (o : Option ℕ) (p : Option Decision) (b : ℕ) → stage_of o p ≡ Comparing b → (o ≡ Some b) × (p ≡ None)
at_comparing None p b e = (cc, cc)
at_comparing (Some x) None b e = (cc, refl)
at_comparing (Some x) (Some d) b e = (cc, cc)

pub at_decided : (o : Option ℕ) (p : Option Decision) (b : ℕ) (d : Decision) → stage_of o p ≡ Decided b d → (o ≡ Some b) × (p ≡ Some d)
at_decided None p b d e = (cc, cc)
at_decided (Some x) None b d e = (cc, cc)
at_decided (Some x) (Some y) b d e = (cc, cc)

-- ---- the vote w is counted after h
module _ (S : Setting) (w : Vote) (h : List Vote) where
  abbrev after : Stage
  after = stage_of (branch S (w ∷ h)) (decided S (w ∷ h))

  after_is : (o : Option ℕ) (p : Option Decision) → branch S (w ∷ h) ≡ o → decided S (w ∷ h) ≡ p → stage_of o p ≡ after
  after_is o p e q = ap₂ stage_of (sym e) (sym q)

  -- without a branch, the decision does not matter
  pub gathering_after : branch S (w ∷ h) ≡ None → Gathering ≡ after
  gathering_after e = after_is None (decided S (w ∷ h)) e refl

  pub fixed_after : (b : ℕ) → branch S h ≡ None → branch S (w ∷ h) ≡ Some b → stage_of (Some b) (verdict_on S S.depth b (seen (w ∷ h))) ≡ after
  fixed_after b e q = after_is _ _ q (decision_next S w h b q (undecided S h e))

  pub compared_after : (b : ℕ) → branch S h ≡ Some b → decided S h ≡ None → stage_of (Some b) (verdict_on S S.depth b (seen (w ∷ h))) ≡ after
  compared_after b e q = after_is _ _ (branch_more S w h b e) (decision_next S w h b (branch_more S w h b e) q)

  pub comparing_after : (b : ℕ) → (w.kind ≡ 2 → ⊥) → branch S h ≡ Some b → decided S h ≡ None → Comparing b ≡ after
  comparing_after b ne e q = after_is _ _ (branch_more S w h b e) (decision_waits S w h b ne e q)

  pub decided_after : (b : ℕ) (d : Decision) → branch S h ≡ Some b → decided S h ≡ Some d → Decided b d ≡ after
  decided_after b d e q = after_is _ _ (branch_more S w h b e) (decision_stays S w h d q)
