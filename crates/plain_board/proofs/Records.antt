-- Records that show a history: at the start, and once a vote is counted. Assumes nothing.
use Rattle.std.proofs.Common.{◌≡◌, ℕ, ◌<◌, ◌≤◌, Bool, true, false, cond, eqb, List, [], ◌∷◌, Some, None, sym, refl, ap, ◌∙◌, ap₂, arith}
use Rattle.std.proofs.lemmas.Bool.{cond-true, eqb-true, eqb-false}
use Rattle.quorum.specs.Sets.{member}
use Rattle.quorum.specs.Members.{member_set_of}
use Rattle.vote.specs.declared.Decision.{Decision}
use Rattle.vote.specs.declared.Vote.{Vote}
use Rattle.vote.specs.History.{seen, first, speaks, memo}
use Rattle.vote.specs.Setting.{Setting}
use Rattle.agreement.specs.Plain.{branch, decided}
use Rattle.plain_board.specs.declared.record.PlainRecord.{PlainRecord}
use Rattle.plain_board.specs.declared.stage.Stage.{Stage}
use Rattle.plain_board.specs.declared.stage.Stage.TheVariants.{Gathering, Comparing, Decided}
use Rattle.heard.specs.declared.tally.Tally.{Tally}
use Rattle.plain_board.specs.Shown.{stage_of, tally_of, record_of}
use Rattle.heard.specs.Masks.{added}
use Rattle.plain_board.specs.Step.{repeats, of_kind, noted}
use Rattle.heard.proofs.Read.{tally_all}
use Rattle.plain_board.proofs.Tallies.{tally_other, counted}
use Rattle.plain_board.proofs.Stages.{at_gathering, at_comparing, at_decided}

abbrev pub made : Stage → Tally → Tally → PlainRecord
made s t u = record { stage = s; first = t; second = u }

pub start_is : (S : Setting) (t u : Tally) → t ≡ tally_of S.rule.crew (seen []) 1 → u ≡ tally_of S.rule.crew (seen []) 2 → made Gathering t u ≡ record_of S []
unfolding record_of branch decided memo
start_is S t u e f = ap₂ (made Gathering) e f

sender_in : (n : ℕ) (h : List Vote) (t : Tally) (c i : ℕ) → t ≡ tally_of n (seen h) c → i < n → member i t.all ≡ speaks (seen h) c i
sender_in n h t c i e l = ap (member i) (tally_all n (first h c) t e) ∙ member_set_of n (speaks (seen h) c) i l

repeats_in : (n : ℕ) (h : List Vote) (t : Tally) (c : ℕ) (w : Vote) → t ≡ tally_of n (seen h) c → w.sender < n → w.kind ≡ c → member w.sender t.all ≡ repeats h w
repeats_in n h t c w e l k = sender_in n h t c w.sender e l ∙ ap (λ (z : ℕ). speaks (seen h) z w.sender) (sym k)

-- ---- what a record that shows h holds
module _ (S : Setting) (h : List Vote) (o : PlainRecord) (e : o ≡ record_of S h) where
  pub stage_at : o.stage ≡ stage_of (branch S h) (decided S h)
  unfolding record_of
  stage_at = ap (λ (y : PlainRecord). y.stage) e

  pub first_at : o.first ≡ tally_of S.rule.crew (seen h) 1
  unfolding record_of
  first_at = ap (λ (y : PlainRecord). y.first) e

  pub second_at : o.second ≡ tally_of S.rule.crew (seen h) 2
  unfolding record_of
  second_at = ap (λ (y : PlainRecord). y.second) e

  pub no_branch : o.stage ≡ Gathering → branch S h ≡ None
  no_branch g = at_gathering (branch S h) (decided S h) (sym stage_at ∙ g)

  pub has_branch : (b : ℕ) → o.stage ≡ Comparing b → (branch S h ≡ Some b) × (decided S h ≡ None)
  has_branch b g = at_comparing (branch S h) (decided S h) b (sym stage_at ∙ g)

  pub has_decision : (b : ℕ) (d : Decision) → o.stage ≡ Decided b d → (branch S h ≡ Some b) × (decided S h ≡ Some d)
  has_decision b d g = at_decided (branch S h) (decided S h) b d (sym stage_at ∙ g)

  -- ---- the vote w is counted after h
  module _ (w : Vote) (inside : w.sender < S.rule.crew) (one : 1 ≤ w.kind) (two : w.kind ≤ 2) where
    pub repeats_is : member w.sender (of_kind w.kind o).all ≡ repeats h w
    repeats_is = by_kind (eqb w.kind 1) refl
      where
        by_kind : (t : Bool) → eqb w.kind 1 ≡ t → member w.sender (cond t o.first o.second).all ≡ repeats h w
        by_kind true q = repeats_in S.rule.crew h o.first 1 w first_at inside (eqb-true _ _ q)
        by_kind false q = let ne = eqb-false _ _ q in repeats_in S.rule.crew h o.second 2 w second_at inside (omega arith)

    pub noted_again : repeats h w ≡ true → noted o w ≡ o
    noted_again again = by_kind (eqb w.kind 1) (repeats_is ∙ again)
      where
        by_kind : (t : Bool) → member w.sender (cond t o.first o.second).all ≡ true
            → made o.stage (cond t (added o.first w.value w.sender) o.first) (cond t o.second (added o.second w.value w.sender)) ≡ o
        by_kind true m = ap (λ (t : Tally). made o.stage t o.second) (cond-true _ _ _ m)
        by_kind false m = ap (λ (t : Tally). made o.stage o.first t) (cond-true _ _ _ m)

    module _ (low : w.value ≤ 8) (p : PlainRecord) (add : p ≡ noted o w) where
      pub first_now : p.first ≡ tally_of S.rule.crew (seen (w ∷ h)) 1
      first_now = ap (λ (y : PlainRecord). y.first) add ∙ by_kind (eqb w.kind 1) refl
        where
          by_kind : (t : Bool) → eqb w.kind 1 ≡ t → cond t (added o.first w.value w.sender) o.first ≡ tally_of S.rule.crew (seen (w ∷ h)) 1
          by_kind true q = counted h w S.rule.crew 1 o.first low inside (eqb-true _ _ q) first_at
          by_kind false q = first_at ∙ sym (tally_other h w S.rule.crew 1 (eqb-false _ _ q))

      pub second_now : p.second ≡ tally_of S.rule.crew (seen (w ∷ h)) 2
      second_now = ap (λ (y : PlainRecord). y.second) add ∙ by_kind (eqb w.kind 1) refl
        where
          by_kind : (t : Bool) → eqb w.kind 1 ≡ t → cond t o.second (added o.second w.value w.sender) ≡ tally_of S.rule.crew (seen (w ∷ h)) 2
          by_kind true q = let k = eqb-true _ _ q in second_at ∙ sym (tally_other h w S.rule.crew 2 (λ e. omega arith))
          by_kind false q = let ne = eqb-false _ _ q in counted h w S.rule.crew 2 o.second low inside (omega arith) second_at

      -- with the stage that the history leads to, the record shows it
      pub record_now : (s : Stage) → s ≡ stage_of (branch S (w ∷ h)) (decided S (w ∷ h)) → made s p.first p.second ≡ record_of S (w ∷ h)
      unfolding record_of
      record_now s now = ap (λ (z : Stage). made z p.first p.second) now ∙ ap₂ (made (stage_of (branch S (w ∷ h)) (decided S (w ∷ h)))) first_now second_now
