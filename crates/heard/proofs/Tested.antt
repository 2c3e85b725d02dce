-- Each test, from what is asked of the sets of senders: its parts put together are the test's definition. Assumes nothing.
use Rattle.std.proofs.Common.{◌≡◌, ℕ, suc, ◌+◌, ◌-◌, ◌<◌, ◌≤◌, Bool, true, false, cond, not, ◌&&◌, eqb, get_or, Some, None, Option, sym, refl, ap, ◌∙◌, ap₂, ⊎_elim, arith}
use Rattle.std.proofs.lemmas.Bool.{eq-eqb, ne_eqb, cases_eq, cond-true, cond-false}
use Rattle.quorum.specs.declared.rule.FailureRule.{Ghosts}
use Rattle.quorum.specs.Rules.{Rule, ample, ample_by}
use Rattle.vote.specs.declared.Decision.{Decision}
use Rattle.vote.specs.declared.Depth.{Depth}
use Rattle.vote.specs.declared.Vote.{Vote}
use Rattle.vote.specs.declared.voting.Voting.{Voting}
use Rattle.vote.specs.History.{Seen, says, speaks}
use Rattle.vote.specs.Search.{seek, or_else, when, given}
use Rattle.vote.specs.Setting.{lowest}
use Rattle.agreement.specs.Echo.{approved, two_approved, mixed, second, backed, decides}
use Rattle.vote.proofs.Options.{given_absent, else_given, else_none}
use Rattle.vote.proofs.Seeking.{two_none, two_some}
use Rattle.heard.specs.declared.counted.Heard.{Heard}
use Rattle.heard.specs.Shown.{heard_of, setting}
use Rattle.heard.specs.Due.{shared_due, third_due, outcome_due, fifth_due, held, verdict_due}
use Rattle.heard.specs.Masks.{beyond, ample_from, backed_in}
use Rattle.heard.proofs.Made.{ample_echo, ample_all, lowest_echo, lowest_approved, backed_is}
use Rattle.heard.proofs.Read.{value_at}

-- ---- under what a voting settles
module _ {B : Type 0} {m : Ghosts B} (V : Voting B m) where
  abbrev R : Rule
  R = m.meaning V.rule.now

  abbrev k : ℕ
  k = V.characters

  module _ (o : Heard) (d : Depth) (x : Seen) (e : o ≡ heard_of R.crew x) where
    pub second_made : {r : Option ℕ} → r ≡ seek (suc k) (ample_from R o.echoes 0) → r ≡ second (setting R k d) x
    unfolding second lowest approved
    second_made p = p ∙ lowest_approved V o x e

    pub two_made_none : {u : Option ℕ} → u ≡ seek (suc k) (ample_from R o.echoes 0) → u ≡ None → false ≡ two_approved (setting R k d) x
    unfolding two_approved lowest approved
    two_made_none p q = two_none (suc k) (λ v. ample_by R (x.echo v)) (sym (lowest_approved V o x e) ∙ sym p ∙ q)

    pub two_made_some : {u v : Option ℕ} (w : ℕ) → u ≡ seek (suc k) (ample_from R o.echoes 0) → u ≡ Some w → v ≡ seek (suc k) (ample_from R o.echoes (w + 1)) → given v ≡ two_approved (setting R k d) x
    unfolding two_approved lowest approved
    two_made_some w p q s =
        ap given (s ∙ lowest_echo V o x e (w + 1)) ∙ two_some (suc k) (λ v. ample_by R (x.echo v)) w (sym (lowest_approved V o x e) ∙ sym p ∙ q)

    pub mixed_by_zero : ample R (get_or o.echoes 0 0) ≡ true → true ≡ mixed (setting R k d) x
    unfolding mixed approved
    mixed_by_zero p = rw (sym (ample_echo V o x e 0 (omega arith)) ∙ p)

    pub mixed_by_two : {b : Bool} → ample R (get_or o.echoes 0 0) ≡ false → b ≡ two_approved (setting R k d) x → b ≡ mixed (setting R k d) x
    unfolding mixed approved
    mixed_by_two p q = rw (sym (ample_echo V o x e 0 (omega arith)) ∙ p) q

    -- mixed, and all senders of the kind are ample
    abbrev Late : ℕ → Bool
    Late c = mixed (setting R k d) x && ample_by R (speaks x c)

    abbrev AllLate : ℕ → Bool
    AllLate j = mixed (setting R k d) x && ample R (get_or o.first j beyond).all

    late_made : (j : ℕ) → j < 5 → {b : Bool} → b ≡ AllLate j → b ≡ Late (suc j)
    late_made j h p = p ∙ ap (λ (a : Bool). mixed (setting R k d) x && a) (ample_all V o x e j h)

    -- ---- the value of the vote w in the kind c
    module _ (w : Vote) where
      pub shared_other : (c : ℕ) → (w.kind ≡ c → ⊥) → None ≡ shared_due (setting R k d) w c x
      shared_other c ne = rw (ne_eqb w.kind c ne) refl

      pub shared_made : (c : ℕ) → 1 ≤ c → c ≤ 5 → w.value ≤ 8 → w.kind ≡ c → {b : Bool} {r : Option ℕ} → b ≡ ample R (get_or (get_or o.first (c - 1) beyond).values w.value 0) → r ≡ when b w.value → r ≡ shared_due (setting R k d) w c x
      shared_made c one five low same p q =
          let a = value_at R.crew o x e (c - 1) w.value (omega arith) low in
          let n : suc (c - 1) ≡ c = omega arith in
          q ∙ ap (λ (b : Bool). when b w.value) (p ∙ ap (ample R) a ∙ ap (λ (z : ℕ). ample_by R (says x z w.value)) n ∙ ap (λ (t : Bool). t && ample_by R (says x c w.value)) (sym (eq-eqb w.kind c same)))

      pub third_shared : w.kind ≡ 2 → {r : Option ℕ} → r ≡ shared_due (setting R k d) w 2 x → r ≡ third_due (setting R k d) w x
      third_shared same p = p ∙ sym (cond-true _ _ _ (eq-eqb w.kind 2 same))

      pub third_two : (w.kind ≡ 2 → ⊥) → {r : Option ℕ} {b : Bool} → r ≡ when b 0 → b ≡ two_approved (setting R k d) x → r ≡ third_due (setting R k d) w x
      third_two ne p q = p ∙ ap (λ (b : Bool). when b 0) q ∙ sym (cond-false _ _ _ (ne_eqb w.kind 2 ne))

      pub outcome_late : true ≡ AllLate 2 → Some 0 ≡ outcome_due (setting R k d) w x
      outcome_late p = rw (sym (late_made 2 (omega arith) p)) refl

      pub outcome_shared : false ≡ AllLate 2 → {r : Option ℕ} → r ≡ shared_due (setting R k d) w 3 x → r ≡ outcome_due (setting R k d) w x
      outcome_shared p q = rw (sym (late_made 2 (omega arith) p)) q

      pub fifth_shared : (s : Option ℕ) → s ≡ shared_due (setting R k d) w 4 x → (s ≡ None → ⊥) → s ≡ fifth_due (setting R k d) w x
      fifth_shared None p some = absurd (some refl)
      fifth_shared (Some v) p some = rw (sym p) refl

      pub fifth_late : {r s : Option ℕ} {b : Bool} → s ≡ shared_due (setting R k d) w 4 x → s ≡ None → b ≡ AllLate 3 → r ≡ when b 0 → r ≡ fifth_due (setting R k d) w x
      fifth_late p q b t = rw (sym p, q) (t ∙ ap (λ (a : Bool). when a 0) (late_made 3 (omega arith) b))

      -- a value that is not 0 is decided for where it is due, and else what is held is
      pub verdict_own : (w.value ≡ 0 → ⊥) → {f : Option Decision} {v : Option ℕ} → v ≡ shared_due (setting R k d) w 5 x → f ≡ decides 2 v → given f ≡ true → f ≡ verdict_due (setting R k d) w x
      verdict_own ne p q some =
          else_given _ (held (setting R k d) x) some ∙ ap (λ (a : Option Decision). or_else a (held (setting R k d) x)) (q ∙ ap (decides 2) p) ∙ sym (cond-false _ _ _ (ne_eqb w.value 0 ne))

      pub verdict_held : {r f h : Option Decision} {v : Option ℕ} → v ≡ shared_due (setting R k d) w 5 x → f ≡ decides 2 v → (not (eqb w.value 0) && given f) ≡ false
          → h ≡ held (setting R k d) x → r ≡ or_else h f → r ≡ verdict_due (setting R k d) w x
      verdict_held p q few h r =
          let own = q ∙ ap (decides 2) p in
          ⊎_elim
          (λ (z : w.value ≡ 0). r ∙ ap₂ or_else h own ∙ sym (cond-true _ _ _ (eq-eqb w.value 0 z)))
          (λ (z : w.value ≡ 0 → ⊥).
          let none = given_absent _ (rw (ne_eqb w.value 0 z) at few) in
          r ∙ ap₂ or_else h none ∙ sym (else_none _) ∙ ap (λ (a : Option Decision). or_else a (held (setting R k d) x)) (sym none ∙ own) ∙ sym (cond-false _ _ _ (ne_eqb w.value 0 z)))
          (cases_eq w.value 0)

    -- what test 7 holds
    pub held_made : {h : Option Decision} {v : Option ℕ} {b : Bool} → h ≡ cond b (decides 1 v) None → b ≡ AllLate 4
        → v ≡ seek (suc k) (backed_in R (get_or o.first 3 beyond).values (get_or o.first 4 beyond).values) → h ≡ held (setting R k d) x
    unfolding lowest backed
    held_made p q v = p ∙ ap₂ (λ (t : Bool) (w : Option ℕ). cond t (decides 1 w) None) (late_made 4 (omega arith) q) (v ∙ backed_is V o x e)
