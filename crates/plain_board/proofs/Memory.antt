-- How the branch and the decision go on as one vote more is counted. Assumes nothing.
use Rattle.std.proofs.Common.{◌≡◌, ℕ, zero, suc, ◌≤◌, Bool, true, false, cond, not, ◌&&◌, eqb, List, [], ◌∷◌, Some, None, Option, unwrap_or, sym, refl, ap, ◌∙◌, ap₂, ⊎_elim}
use Rattle.std.proofs.lemmas.Bool.{and_from, and_parts}
use Rattle.quorum.specs.Rules.{Rule, Lawful, ample, ample_by}
use Rattle.quorum.specs.Sets.{member}
use Rattle.quorum.proofs.Sharing.{ample_facts}
use Rattle.quorum.specs.Members.{member_none}
use Rattle.quorum.specs.Truth.{clash, false_unless}
use Rattle.vote.specs.declared.Decision.{Decision}
use Rattle.vote.specs.declared.Depth.{Depth}
use Rattle.vote.specs.declared.Depth.TheVariants.{One, Two}
use Rattle.vote.specs.declared.Vote.{Vote}
use Rattle.vote.specs.History.{Seen, seen, first, speaks, memo}
use Rattle.vote.specs.Search.{or_else, when, given}
use Rattle.vote.specs.Setting.{Setting, decision_on, lowest}
use Rattle.agreement.specs.Plain.{all_say, some_says, branch_found, branch, compared, decision_found, decided}
use Rattle.agreement.proofs.Plain.Branches.{branch_more}
use Rattle.plain_board.specs.Read.{common_of, verdict_on}
use Rattle.vote.proofs.Counting.{first_other}
use Rattle.vote.proofs.Options.{holds_none, else_cases}
use Rattle.vote.proofs.Seeking.{set_of_none}

-- ---- options
or_nothing : {A : Type 0} (o p : Option A) → or_else o p ≡ None → (o ≡ None) × (p ≡ None)
or_nothing None p e = (refl, e)
or_nothing (Some x) p e = holds_none (sym e)

or_zero : (o : Option ℕ) → or_else o (Some 0) ≡ Some (unwrap_or o 0)
or_zero None = refl
or_zero (Some v) = refl

-- by a lawful rule of some cover, somebody is waited for
pub empty_not_ample : (R : Rule) → Lawful R → 1 ≤ R.cover → ample R 0 ≡ false
empty_not_ample R law low =
    false_unless _ (λ t.
    let k = (ample_facts law).share_a_board (0 ∷ []) [] low (and_from (ample R 0) true t refl) refl in
    clash (and_parts (member k.0 0) true k.2).0 (member_none k.0))

-- ---- what a test reads of the votes
-- the votes of one kind alone
abbrev only : (ℕ → Option ℕ) → Seen
only f = record { echo = λ v i. false; first = λ c. f }

module _ (S : Setting) where
  branch_by : (ℕ → Option ℕ) → Option ℕ
  branch_by f = cond (ample_by S.rule (λ i. given (f i))) (or_else (lowest S (λ v. not (eqb v 0) && all_say S (only f) 1 v)) (Some 0)) None

  branch_reads : (h : List Vote) → branch_found S h ≡ branch_by (first h 1)
  unfolding branch_found branch_by all_say
  branch_reads h = refl

  verdict_reads : (d : Depth) (b : ℕ) (x : Seen) → verdict_on S d b x ≡ verdict_on S d b (only (x.first 2))
  unfolding verdict_on compared all_say some_says
  verdict_reads One b x = refl
  verdict_reads Two zero x = refl
  verdict_reads Two (suc b) x = refl

  pub verdict_same : (d : Depth) (b : ℕ) (x y : Seen) → x.first 2 ≡ y.first 2 → verdict_on S d b x ≡ verdict_on S d b y
  verdict_same d b x y e = verdict_reads d b x ∙ ap (λ (f : ℕ → Option ℕ). verdict_on S d b (only f)) e ∙ sym (verdict_reads d b y)

  -- ---- one vote more
  branch_step : (w : Vote) (h : List Vote) → branch S (w ∷ h) ≡ or_else (branch S h) (branch_found S (w ∷ h))
  unfolding branch memo
  branch_step w h = refl

  decided_step : (w : Vote) (h : List Vote) → decided S (w ∷ h) ≡ or_else (decided S h) (decision_found S S.depth (w ∷ h))
  unfolding decided memo
  decided_step w h = refl

  none_at_first : branch S [] ≡ None
  unfolding branch memo
  none_at_first = refl

  abbrev by_branch : Depth → Option ℕ → Seen → Option Decision
  by_branch d None x = None
  by_branch d (Some b) x = verdict_on S d b x

  one_is : (o : Option ℕ) (x : Seen) → elim o [ None ↦ None | Some b ↦ Some (decision_on 1 b) ] ≡ by_branch One o x
  unfolding verdict_on
  one_is None x = refl
  one_is (Some b) x = refl

  two_is : (o : Option ℕ) (x : Seen) → elim o [ None ↦ None | Some b ↦ when (ample_by S.rule (speaks x 2)) (compared S b x) ] ≡ by_branch Two o x
  unfolding verdict_on
  two_is None x = refl
  two_is (Some b) x = refl

  found_is : (d : Depth) (h : List Vote) → decision_found S d h ≡ by_branch d (branch S h) (seen h)
  unfolding decision_found
  found_is One h = one_is (branch S h) (seen h)
  found_is Two h = two_is (branch S h) (seen h)

  found_by : (d : Depth) (h : List Vote) (o : Option ℕ) → branch S h ≡ o → decision_found S d h ≡ by_branch d o (seen h)
  found_by d h o e = found_is d h ∙ ap (λ (z : Option ℕ). by_branch d z (seen h)) e

  pub undecided : (h : List Vote) → branch S h ≡ None → decided S h ≡ None
  unfolding decided memo
  undecided [] e = refl
  undecided (w ∷ h) e =
      let k = or_nothing (branch S h) (branch_found S (w ∷ h)) (sym (branch_step w h) ∙ e) in
      decided_step w h ∙ ap₂ or_else (undecided h k.0) (found_by S.depth (w ∷ h) None e)

  -- ---- the branch
  branch_found_is : (h : List Vote) (a : Bool) → ample_by S.rule (speaks (seen h) 1) ≡ a → branch_found S h ≡ cond a (Some (common_of S (seen h) 1)) None
  unfolding branch_found common_of
  branch_found_is h a e =
      ap (λ (z : Bool). cond z (or_else (lowest S (λ v. not (eqb v 0) && all_say S (seen h) 1 v)) (Some 0)) None) e
      ∙ ap (λ (z : Option ℕ). cond a z None) (or_zero (lowest S (λ v. not (eqb v 0) && all_say S (seen h) 1 v)))

  -- the branch of a board that had none
  pub branch_next : (w : Vote) (h : List Vote) (a : Bool) → branch S h ≡ None → ample_by S.rule (speaks (seen (w ∷ h)) 1) ≡ a
      → branch S (w ∷ h) ≡ cond a (Some (common_of S (seen (w ∷ h)) 1)) None
  branch_next w h a e q = branch_step w h ∙ ap₂ or_else e (branch_found_is (w ∷ h) a q)

  pub decision_stays : (w : Vote) (h : List Vote) (d : Decision) → decided S h ≡ Some d → decided S (w ∷ h) ≡ Some d
  decision_stays w h d e = decided_step w h ∙ ap (λ (z : Option Decision). or_else z (decision_found S S.depth (w ∷ h))) e

  -- ---- where there was nothing to find, there is nothing after a vote of another kind
  pub waits : Lawful S.rule → 1 ≤ S.rule.cover → (h : List Vote) → branch S h ≡ None → branch_found S h ≡ None
  unfolding first
  waits law low [] e = branch_found_is [] false (ap (ample S.rule) (set_of_none S.rule.crew) ∙ empty_not_ample S.rule law low)
  waits law low (w ∷ h) e = (or_nothing (branch S h) (branch_found S (w ∷ h)) (sym (branch_step w h) ∙ e)).1

  pub branch_waits : Lawful S.rule → 1 ≤ S.rule.cover → (w : Vote) (h : List Vote) → (w.kind ≡ 1 → ⊥) → branch S h ≡ None → branch S (w ∷ h) ≡ None
  branch_waits law low w h ne e =
      branch_step w h ∙ ap₂ or_else e (branch_reads (w ∷ h) ∙ ap branch_by (first_other w h 1 ne) ∙ sym (branch_reads h) ∙ waits law low h e)

  -- the decision of a board that had none, with a branch
  pub decision_next : (w : Vote) (h : List Vote) (b : ℕ) → branch S (w ∷ h) ≡ Some b → decided S h ≡ None → decided S (w ∷ h) ≡ verdict_on S S.depth b (seen (w ∷ h))
  decision_next w h b e q = decided_step w h ∙ ap₂ or_else q (found_by S.depth (w ∷ h) (Some b) e)

  no_verdict : (h : List Vote) (b : ℕ) → branch S h ≡ Some b → decided S h ≡ None → verdict_on S S.depth b (seen h) ≡ None
  no_verdict [] b e q = holds_none (sym none_at_first ∙ e)
  no_verdict (w ∷ h) b e q =
      sym (found_by S.depth (w ∷ h) (Some b) e) ∙ (or_nothing (decided S h) (decision_found S S.depth (w ∷ h)) (sym (decided_step w h) ∙ q)).1

  pub decision_waits : (w : Vote) (h : List Vote) (b : ℕ) → (w.kind ≡ 2 → ⊥) → branch S h ≡ Some b → decided S h ≡ None → decided S (w ∷ h) ≡ None
  decision_waits w h b ne e q =
      decision_next w h b (branch_more S w h b e) q ∙ verdict_same S.depth b (seen (w ∷ h)) (seen h) (first_other w h 2 ne) ∙ no_verdict h b e q

  -- a decision was found at some time, with the branch of that time
  pub decided_when : (h : List Vote) (y : Decision) → decided S h ≡ Some y → (g : List Vote) × (b : ℕ) × (branch S g ≡ Some b) × (verdict_on S S.depth b (seen g) ≡ Some y)
  unfolding decided memo
  decided_when [] y e = holds_none e
  decided_when (w ∷ h) y e =
      ⊎_elim (λ q. decided_when h y q) (λ q. found (branch S (w ∷ h)) refl (sym (found_is S.depth (w ∷ h)) ∙ q))
      (else_cases (decided S h) (decision_found S S.depth (w ∷ h)) y (sym (decided_step w h) ∙ e))
    where
      found : (o : Option ℕ) → branch S (w ∷ h) ≡ o → by_branch S.depth (branch S (w ∷ h)) (seen (w ∷ h)) ≡ Some y
          → (g : List Vote) × (b : ℕ) × (branch S g ≡ Some b) × (verdict_on S S.depth b (seen g) ≡ Some y)
      found None k q = holds_none (sym (ap (λ (z : Option ℕ). by_branch S.depth z (seen (w ∷ h))) k) ∙ q)
      found (Some b) k q = (w ∷ h, b, k, sym (ap (λ (z : Option ℕ). by_branch S.depth z (seen (w ∷ h))) k) ∙ q)
