-- What the sets of a tally say of the votes that it shows. Assumes nothing.
use Rattle.std.proofs.Common.{◌≡◌, ℕ, zero, suc, ◌≤◌, Bool, true, false, cond, not, ◌&&◌, eqb, get_or, Some, None, Option, unwrap_or, sym, refl, ap, ◌∙◌, ap₂, zero-le, arith}
use Rattle.quorum.specs.Rules.{ample}
use Rattle.quorum.specs.Sets.{set_of}
use Rattle.vote.specs.declared.Decision.{Decision}
use Rattle.vote.specs.declared.Depth.{Depth}
use Rattle.vote.specs.declared.Depth.TheVariants.{One, Two}
use Rattle.vote.specs.History.{Seen, says, speaks}
use Rattle.vote.specs.Search.{seek}
use Rattle.vote.specs.Setting.{Setting, decision_on, lowest}
use Rattle.agreement.specs.Plain.{all_say, some_says, compared}
use Rattle.heard.specs.declared.tally.Tally.{Tally}
use Rattle.plain_board.specs.Shown.{tally_of}
use Rattle.plain_board.specs.Read.{agreed, common_of, least_of, verdict_on}
use Rattle.vote.proofs.Options.{is_given}
use Rattle.vote.proofs.Seeking.{seek_found, seek_ext, some_in}
use Rattle.heard.proofs.Read.{tally_all, tally_value}
use Rattle.plain_board.proofs.Masks.{all_in}

-- some sender in the tally bears v
abbrev pub borne : Tally → ℕ → Bool
borne t v = not (eqb (get_or t.values v 0) 0)

-- a character that passes the test
abbrev pub past_zero : (ℕ → Bool) → ℕ → Bool
past_zero p v = not (eqb v 0) && p v

pub found_low : (k : ℕ) (p : ℕ → Bool) (o : Option ℕ) → o ≡ seek (suc k) p → unwrap_or o 0 ≤ k
found_low k p None e = zero-le
found_low k p (Some v) e = let l = (seek_found (suc k) p v (sym e)).0 in omega arith

module _ (S : Setting) (x : Seen) (c : ℕ) (t : Tally) (e : t ≡ tally_of S.rule.crew x c) where
  pub all_at : t.all ≡ set_of S.rule.crew (speaks x c)
  all_at = tally_all S.rule.crew (x.first c) t e

  pub value_at : (v : ℕ) → v ≤ 8 → get_or t.values v 0 ≡ set_of S.rule.crew (says x c v)
  value_at = tally_value S.rule.crew (x.first c) t e

  pub agreed_is : (v : ℕ) → v ≤ 8 → agreed t v ≡ all_say S x c v
  unfolding all_say
  agreed_is v h = ap₂ eqb (value_at v h) all_at ∙ all_in S.rule.crew (says x c v) (speaks x c) (λ i. is_given v (x.first c i))

  borne_is : (v : ℕ) → v ≤ 8 → borne t v ≡ some_says S x c v
  unfolding some_says
  borne_is v h = ap (λ (z : ℕ). not (eqb z 0)) (value_at v h) ∙ some_in S.rule.crew (says x c v)

  pub common_is : (k : ℕ) → S.characters ≡ k → k ≤ 8 → (o : Option ℕ) → seek (suc k) (past_zero (agreed t)) ≡ o → unwrap_or o 0 ≡ common_of S x c
  unfolding common_of lowest
  common_is k f low o q =
      ap (λ (z : Option ℕ). unwrap_or z 0)
      (sym q ∙ ap (λ (z : ℕ). seek (suc z) (past_zero (agreed t))) (sym f) ∙ seek_ext (suc S.characters) _ _ (λ v h. ap (λ (b : Bool). not (eqb v 0) && b) (agreed_is v (omega arith))))

  pub least_is : (k : ℕ) → S.characters ≡ k → k ≤ 8 → (o : Option ℕ) → seek (suc k) (past_zero (borne t)) ≡ o → unwrap_or o 0 ≡ least_of S x c
  unfolding least_of lowest
  least_is k f low o q =
      ap (λ (z : Option ℕ). unwrap_or z 0)
      (sym q ∙ ap (λ (z : ℕ). seek (suc z) (past_zero (borne t))) (sym f) ∙ seek_ext (suc S.characters) _ _ (λ v h. ap (λ (b : Bool). not (eqb v 0) && b) (borne_is v (omega arith))))

-- ---- what is decided with a branch
module _ (S : Setting) (x : Seen) where
  lowest_graded : (o : Option ℕ) → decision_on 1 (unwrap_or o 0) ≡ elim o [ None ↦ decision_on 1 0 | Some v ↦ decision_on 1 v ]
  lowest_graded None = refl
  lowest_graded (Some v) = refl

  pub compared_zero : (b : ℕ) → b ≡ 0 → decision_on 1 (least_of S x 2) ≡ compared S b x
  unfolding compared least_of
  compared_zero b e = lowest_graded (lowest S (λ v. not (eqb v 0) && some_says S x 2 v)) ∙ ap (λ (z : ℕ). compared S z x) (sym e)

  compared_other : (b : ℕ) (agree : Bool) → (b ≡ 0 → ⊥) → all_say S x 2 b ≡ agree → decision_on (cond agree 2 1) b ≡ compared S b x
  unfolding compared
  compared_other zero agree ne e = absurd (ne refl)
  compared_other (suc b) agree ne e = ap (λ (z : Bool). decision_on (cond z 2 1) (suc b)) (sym e)

  module _ (t : Tally) (shown : t ≡ tally_of S.rule.crew x 2) (b : ℕ) where
    module _ (low : b ≤ 8) (ne : b ≡ 0 → ⊥) where
      pub compared_same : agreed t b ≡ true → decision_on 2 b ≡ compared S b x
      compared_same e = compared_other b true ne (sym (agreed_is S x 2 t shown b low) ∙ e)

      pub compared_differing : agreed t b ≡ false → decision_on 1 b ≡ compared S b x
      compared_differing e = compared_other b false ne (sym (agreed_is S x 2 t shown b low) ∙ e)

    -- ---- by the depth
    pub verdict_waits : (d : Depth) → d ≡ Two → ample S.rule t.all ≡ false → None ≡ verdict_on S d b x
    unfolding verdict_on
    verdict_waits d e q = rw (e, sym (all_at S x 2 t shown), q)

    pub verdict_two : (d : Depth) → d ≡ Two → ample S.rule t.all ≡ true → (y : Decision) → y ≡ compared S b x → Some y ≡ verdict_on S d b x
    unfolding verdict_on
    verdict_two d e q y p = rw (e, sym (all_at S x 2 t shown), q, p)

  pub verdict_one : (b : ℕ) (d : Depth) → d ≡ One → Some (decision_on 1 b) ≡ verdict_on S d b x
  unfolding verdict_on
  verdict_one b d e = rw e
