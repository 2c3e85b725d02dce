-- The record and the answer after a vote, from each stage and by the vote's kind. Assumes nothing.
use Rattle.std.proofs.Common.{◌≡◌, ℕ, ◌<◌, ◌≤◌, Bool, true, false, cond, List, ◌∷◌, Some, None, Option, sym, refl, ap, ◌∙◌, arith}
use Rattle.std.proofs.lemmas.Bool.{cond-true, cond-false}
use Rattle.quorum.specs.Rules.{Lawful, ample}
use Rattle.quorum.specs.Sets.{member}
use Rattle.vote.specs.declared.Decision.{Decision}
use Rattle.vote.specs.declared.News.{News}
use Rattle.vote.specs.declared.Vote.{Vote}
use Rattle.vote.specs.History.{seen}
use Rattle.vote.specs.Setting.{Setting}
use Rattle.agreement.specs.Plain.{branch, decided, plain}
use Rattle.agreement.proofs.Plain.Branches.{branch_bounded, branch_more}
use Rattle.vote.specs.News.{no_news, news_of}
use Rattle.plain_board.specs.declared.record.PlainRecord.{PlainRecord}
use Rattle.plain_board.specs.declared.stage.Stage.{Stage}
use Rattle.plain_board.specs.declared.stage.Stage.TheVariants.{Gathering, Comparing, Decided}
use Rattle.plain_board.specs.Shown.{stage_of, record_of}
use Rattle.plain_board.specs.Read.{common_of, Reads, StageOn}
use Rattle.plain_board.specs.Step.{repeats, of_kind, noted, taken, answer_of, branch_news}
use Rattle.plain_board.proofs.Reading.{all_at}
use Rattle.plain_board.proofs.Memory.{branch_next, branch_waits}
use Rattle.plain_board.proofs.Stages.{gathering_after, fixed_after, compared_after, comparing_after, decided_after}
use Rattle.plain_board.proofs.News.{quiet, fixed_news}
use Rattle.plain_board.proofs.Records.{made, no_branch, has_branch, has_decision, repeats_is, noted_again, first_now, second_now, record_now}

module _ (S : Setting) (w : Vote) (h : List Vote) where
  -- the record shows the history with w, and the answer is the method's
  abbrev Shows : PlainRecord → Option News → Type 0
  Shows exit r = (exit ≡ record_of S (taken h w)) × ((start : ℕ) → r ≡ answer_of S start h w)

  anew : (o : PlainRecord) (n : News) → repeats h w ≡ false → o ≡ record_of S (w ∷ h) → ((start : ℕ) → n ≡ news_of (plain S) start h w) → Shows o (Some n)
  unfolding taken answer_of
  anew o n q e f = (e ∙ ap (record_of S) (sym (cond-false _ _ _ q)), λ start. ap {B = Option News} Some (f start) ∙ sym (cond-false _ _ _ q))

  module _ (o p : PlainRecord) (e : o ≡ record_of S h) (inside : w.sender < S.rule.crew) (one : 1 ≤ w.kind) (two : w.kind ≤ 2) (low : w.value ≤ 8) (add : p ≡ noted o w) where
    known : (t : Bool) → member w.sender (of_kind w.kind o).all ≡ t → repeats h w ≡ t
    known t there = sym (repeats_is S h o e w inside one two) ∙ there

    pub again : member w.sender (of_kind w.kind o).all ≡ true → Shows p None
    unfolding taken answer_of
    again there = let q = known true there in (add ∙ noted_again S h o e w inside one two q ∙ e ∙ ap (record_of S) (sym (cond-true _ _ _ q)), λ start. sym (cond-true _ _ _ q))

    module _ (new : member w.sender (of_kind w.kind o).all ≡ false) (m : News) where
      abbrev leads : Stage → Type 0
      leads s = s ≡ stage_of (branch S (w ∷ h)) (decided S (w ∷ h))

      shown : (s : Stage) → leads s → ((start : ℕ) → m ≡ news_of (plain S) start h w) → Shows (made s p.first p.second) (Some m)
      shown s l f = anew _ m (known false new) (record_now S h o e w inside one two low p add s l) f

      -- the news where the branch, or that there is none, stands
      calm : m ≡ no_news → branch S (w ∷ h) ≡ branch S h → (start : ℕ) → m ≡ news_of (plain S) start h w
      calm z q start = z ∙ quiet S start h w q

      stage_then : (s : Stage) → p.stage ≡ s → o.stage ≡ s
      stage_then s g = sym (ap (λ (y : PlainRecord). y.stage) add) ∙ g

      -- ---- gathering
      module _ (g : p.stage ≡ Gathering) where
        none : branch S h ≡ None
        none = no_branch S h o e (stage_then Gathering g)

        still : m ≡ no_news → branch S (w ∷ h) ≡ None → Shows p (Some m)
        still z b = shown p.stage (g ∙ gathering_after S w h b) (calm z (b ∙ sym none))

        branch_now : (a : Bool) → a ≡ ample S.rule p.first.all → branch S (w ∷ h) ≡ cond a (Some (common_of S (seen (w ∷ h)) 1)) None
        branch_now a enough = branch_next S w h a none (sym (enough ∙ ap (ample S.rule) (all_at S (seen (w ∷ h)) 1 p.first (first_now S h o e w inside one two low p add))))

        pub waits : false ≡ ample S.rule p.first.all → m ≡ no_news → Shows p (Some m)
        waits enough z = still z (branch_now false enough)

        pub waits_still : Lawful S.rule → 1 ≤ S.rule.cover → (w.kind ≡ 1 → ⊥) → m ≡ no_news → Shows p (Some m)
        waits_still law some ne z = still z (branch_waits S law some w h ne none)

        pub fixes : true ≡ ample S.rule p.first.all → (b : ℕ) → b ≤ 8 → Reads S.characters common_of p.first b
            → (s : Stage) → StageOn S b p.second s → m ≡ branch_news S.depth b → Shows (made s p.first p.second) (Some m)
        fixes enough b few read s f z =
            let c : b ≡ common_of S (seen (w ∷ h)) 1 = read S (seen (w ∷ h)) 1 refl (first_now S h o e w inside one two low p add) in
            let q : branch S (w ∷ h) ≡ Some b = branch_now true enough ∙ ap {B = Option ℕ} Some (sym c) in
            shown s (f (seen (w ∷ h)) few (second_now S h o e w inside one two low p add) ∙ fixed_after S w h b none q)
            (λ start. z ∙ fixed_news S start h w b few none q)

      -- ---- comparing
      module _ (b : ℕ) (g : p.stage ≡ Comparing b) (z : m ≡ no_news) where
        fixed : (branch S h ≡ Some b) × (decided S h ≡ None)
        fixed = has_branch S h o e b (stage_then (Comparing b) g)

        kept : branch S (w ∷ h) ≡ branch S h
        kept = branch_more S w h b fixed.0 ∙ sym fixed.0

        pub waits_on : (w.kind ≡ 2 → ⊥) → Shows p (Some m)
        waits_on ne = shown p.stage (g ∙ comparing_after S w h b ne fixed.0 fixed.1) (calm z kept)

        pub compares : S.characters ≤ 8 → (s : Stage) → StageOn S b p.second s → Shows (made s p.first p.second) (Some m)
        compares few s f =
            let l : b ≤ 8 = let k = branch_bounded S h b fixed.0 in omega arith in
            shown s (f (seen (w ∷ h)) l (second_now S h o e w inside one two low p add) ∙ compared_after S w h b fixed.0 fixed.1) (calm z kept)

      -- ---- decided
      pub stays_decided : (b : ℕ) (d : Decision) → p.stage ≡ Decided b d → m ≡ no_news → Shows p (Some m)
      stays_decided b d g z =
          let q = has_decision S h o e b d (stage_then (Decided b d) g) in
          shown p.stage (g ∙ decided_after S w h b d q.0 q.1) (calm z (branch_more S w h b q.0 ∙ sym q.0))
