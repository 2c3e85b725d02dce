-- One board of the echo method that has counted anything: each test that holds now has been acted on. Assumes nothing.
use Rattle.std.proofs.Common.{◌≡◌, ℕ, ◌<◌, ◌≤◌, Bool, true, false, cond, not, ◌&&◌, eqb, ◌≢◌, ◌⊎◌, List, Some, None, Option, sym, refl, subst, inl, inr, ⊎_elim}
use Rattle.std.proofs.lemmas.Bool.{eq-eqb, ne_eqb, le-leb, and_from, or_left, or_right, not_from_false}
use Rattle.quorum.specs.Rules.{strong_by, ample_by}
use Rattle.vote.specs.declared.Depth.{Depth}
use Rattle.vote.specs.declared.Depth.TheVariants.{One, Two}
use Rattle.vote.specs.declared.Vote.{Vote}
use Rattle.vote.specs.History.{counted, seen, says, speaks, memo}
use Rattle.vote.specs.Search.{when, given}
use Rattle.vote.specs.Setting.{Setting, lowest}
use Rattle.vote.proofs.Options.{else_left, else_right, when_from}
use Rattle.vote.proofs.Seeking.{seek_from}
use Rattle.agreement.specs.Echo.{decides, approved, mixed, echoes, second, third, outcome, fifth, found, backed, verdict, said, echoed, decided}
use Rattle.agreement.proofs.Remembering.{memo_complete, ever_complete}
use Rattle.agreement.proofs.Steadies.{Strong, Ample}
use Rattle.agreement.proofs.Echo.Tests.{lowest_from, Approved, TwoApproved, Mixed, Echoing, two_from, mixed_from, parted_from}

decides_given : (g : ℕ) (o : Option ℕ) → given o ≡ true → given (decides g o) ≡ true
decides_given g None p = p
decides_given g (Some v) p = refl

cond_given : {A : Type 0} (b : Bool) (x : Option A) → b ≡ true → given x ≡ true → given (cond b x None) ≡ true
cond_given true x p q = q
cond_given false x p q = p

-- v is a value whose senders of kind c are ample
abbrev pub AmpleValue : Setting → ℕ → List Vote → ℕ → Type 0
AmpleValue S c h v = (v ≤ S.characters) × Ample S (says (seen h) c v)

-- some value's senders of kind c are ample, or the board is mixed and all senders of kind c are
abbrev pub Ready : Setting → ℕ → List Vote → Type 0
Ready S c h = ((v : ℕ) × AmpleValue S c h v) ⊎ (Mixed S h × Ample S (speaks (seen h) c))

-- a character that a board of the crew has sent in kind 5, with strong senders of kind 4
abbrev pub Backed : Setting → List Vote → Type 0
Backed S h =
    (w : ℕ) × (w ≤ S.characters) × (w ≢ 0) × ((i : ℕ) × (i < S.rule.crew) × (says (seen h) 5 w i ≡ true)) × Strong S (says (seen h) 4 w)

-- one of the three conditions of a decision at depth 2
abbrev pub Decidable : Setting → List Vote → Type 0
Decidable S h = ((v : ℕ) × (v ≢ 0) × AmpleValue S 5 h v) ⊎ ((Mixed S h × Ample S (speaks (seen h) 5) × Backed S h) ⊎ Ample S (says (seen h) 5 0))

module _ (S : Setting) (h : List Vote) (c₀ v₀ i₀ : ℕ) (any : counted h c₀ v₀ i₀ ≡ true) where
  pub echo_complete : (s v : ℕ) → v ≤ S.characters → Echoing S v h → echoed S s h v ≡ true
  unfolding echoed echoes
  echo_complete s v l e =
      or_right (eqb v s) _ (and_from _ _ (le-leb _ _ l) (ever_complete _ h c₀ v₀ i₀ any
      (⊎_elim (λ a. or_left _ _ a) (λ b. or_right (strong_by S.rule (counted h 1 v)) _ (and_from _ _ (eq-eqb _ _ b.0) (parted_from S h b.1))) e)))

  pub second_complete : (v : ℕ) → Approved S h v → given (said S h 2) ≡ true
  unfolding said found second approved
  second_complete v a = memo_complete _ h c₀ v₀ i₀ any (lowest_from S _ v a.0 a.1)

  pub third_complete : ((v : ℕ) × AmpleValue S 2 h v) ⊎ TwoApproved S h → given (said S h 3) ≡ true
  unfolding said found third
  third_complete (inl a) = memo_complete _ h c₀ v₀ i₀ any (else_left _ _ (lowest_from S _ a.0 a.1.0 a.1.1))
  third_complete (inr t) = memo_complete _ h c₀ v₀ i₀ any (else_right (lowest S (λ v. ample_by S.rule (says (seen h) 2 v))) _ (when_from _ _ (two_from S h t)))

  outcome_given : Ready S 3 h → given (outcome S (seen h)) ≡ true
  unfolding outcome
  outcome_given (inl a) = else_right (when (mixed S (seen h) && ample_by S.rule (speaks (seen h) 3)) 0) _ (lowest_from S _ a.0 a.1.0 a.1.1)
  outcome_given (inr m) = else_left _ _ (when_from _ _ (and_from _ _ (mixed_from S h m.0) m.1))

  fifth_given : Ready S 4 h → given (fifth S (seen h)) ≡ true
  unfolding fifth
  fifth_given (inl a) = else_left _ _ (lowest_from S _ a.0 a.1.0 a.1.1)
  fifth_given (inr m) = else_right (lowest S (λ v. ample_by S.rule (says (seen h) 4 v))) _ (when_from _ _ (and_from _ _ (mixed_from S h m.0) m.1))

  pub fourth_complete : S.depth ≡ Two → Ready S 3 h → given (said S h 4) ≡ true
  unfolding said found
  fourth_complete e a = subst (λ (d : Depth). given (memo (λ g. found S d 4 (seen g)) h) ≡ true) (sym e) (memo_complete _ h c₀ v₀ i₀ any (outcome_given a))

  pub fifth_complete : S.depth ≡ Two → Ready S 4 h → given (said S h 5) ≡ true
  unfolding said found
  fifth_complete e a = subst (λ (d : Depth). given (memo (λ g. found S d 5 (seen g)) h) ≡ true) (sym e) (memo_complete _ h c₀ v₀ i₀ any (fifth_given a))

  pub decided_one : S.depth ≡ One → Ready S 3 h → given (decided S h) ≡ true
  unfolding decided verdict
  decided_one e a =
      subst (λ (d : Depth). given (memo (λ g. verdict S d (seen g)) h) ≡ true) (sym e) (memo_complete _ h c₀ v₀ i₀ any (decides_given 1 _ (outcome_given a)))

  verdict_given : Decidable S h → given (verdict S Two (seen h)) ≡ true
  unfolding verdict backed
  verdict_given (inl a) = else_left _ _ (decides_given 2 _ (lowest_from S _ a.0 a.2.0 (and_from _ _ (not_from_false _ (ne_eqb _ _ a.1)) a.2.1)))
  verdict_given (inr (inl b)) =
      let k = b.2 in
      else_right (decides 2 (lowest S (λ v. not (eqb v 0) && ample_by S.rule (says (seen h) 5 v)))) _
      (else_left _ _ (cond_given _ _ (and_from _ _ (mixed_from S h b.0) b.1) (decides_given 1 _ (lowest_from S _ k.0 k.1
      (and_from _ _ (and_from _ _ (not_from_false _ (ne_eqb _ _ k.2)) (seek_from _ _ k.3.0 k.3.1 k.3.2)) k.4)))))
  verdict_given (inr (inr a)) =
      else_right (decides 2 (lowest S (λ v. not (eqb v 0) && ample_by S.rule (says (seen h) 5 v)))) _
      (else_right (cond (mixed S (seen h) && ample_by S.rule (speaks (seen h) 5)) (decides 1 (lowest S (backed S (seen h)))) None) _ (when_from _ _ a))

  pub decided_two : S.depth ≡ Two → Decidable S h → given (decided S h) ≡ true
  unfolding decided
  decided_two e a = subst (λ (d : Depth). given (memo (λ g. verdict S d (seen g)) h) ≡ true) (sym e) (memo_complete _ h c₀ v₀ i₀ any (verdict_given a))
