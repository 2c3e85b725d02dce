-- One board of the echo method: whatever it remembers is justified by what it has counted by now. Assumes nothing.
use Rattle.std.proofs.Common.{◌≡◌, ℕ, zero, suc, cond, not, ◌&&◌, eqb, ◌≢◌, ◌⊎◌, List, ◌∷◌, Some, None, Option, sym, refl, ap, inl, inr, ⊎_elim, arith}
use Rattle.std.proofs.lemmas.Bool.{eqb-false, and_parts, not-true}
use Rattle.quorum.specs.Rules.{Lawful, ample_by}
use Rattle.vote.specs.declared.Decision.{Decision}
use Rattle.vote.specs.declared.Depth.{Depth}
use Rattle.vote.specs.declared.Depth.TheVariants.{One, Two}
use Rattle.vote.specs.declared.Vote.{Vote}
use Rattle.vote.specs.History.{seen, says, speaks}
use Rattle.vote.specs.Search.{when, some_below}
use Rattle.vote.specs.Setting.{Setting, decision_on, lowest}
use Rattle.vote.proofs.Options.{holds_one, holds_none, else_cases, when_found, cond_found}
use Rattle.vote.proofs.Memories.{memo_sound}
use Rattle.agreement.specs.Decisions.{NoneDecided}
use Rattle.agreement.specs.Echo.{decides, approved, mixed, second, third, outcome, fifth, found, backed, verdict, said, decided}
use Rattle.agreement.proofs.Steadies.{Strong, Ample}
use Rattle.agreement.proofs.Echo.Tests.{lowest_found, Approved, TwoApproved, Mixed, two_found, mixed_found, approved_more, two_more, mixed_more, ample_says_more, ample_speaks_more, strong_says_more}

-- ---- what justifies a word
-- kind 3: ample senders of v in kind 2, or 0 with two values approved
abbrev pub Third : Setting → List Vote → ℕ → Type 0
Third S h v = Ample S (says (seen h) 2 v) ⊎ ((v ≡ 0) × TwoApproved S h)

-- v passed on from kind c: its senders are ample, or v is 0, the board is mixed and all senders of kind c together are ample
abbrev pub Passed : Setting → ℕ → List Vote → ℕ → Type 0
Passed S c h v = Ample S (says (seen h) c v) ⊎ ((v ≡ 0) × Mixed S h × Ample S (speaks (seen h) c))

-- ---- what justifies a decision
abbrev pub JustifiedOne : Setting → List Vote → Decision → Type 0
JustifiedOne S h d = Passed S 3 h d.value × (NoneDecided d ⊎ ((d.value ≢ 0) × (d.grade ≡ 1)))

-- (v, 2)
abbrev pub Full : Setting → List Vote → Decision → Type 0
Full S h d = (d.value ≢ 0) × (d.grade ≡ 2) × Ample S (says (seen h) 5 d.value)

-- (w, 1)
abbrev pub Half : Setting → List Vote → Decision → Type 0
Half S h d = (d.value ≢ 0) × (d.grade ≡ 1) × Mixed S h × Ample S (speaks (seen h) 5) × Strong S (says (seen h) 4 d.value)

-- (0, 0)
abbrev pub Nothing : Setting → List Vote → Decision → Type 0
Nothing S h d = NoneDecided d × Ample S (says (seen h) 5 0)

abbrev pub Justified : Setting → Depth → List Vote → Decision → Type 0
Justified S One h d = JustifiedOne S h d
Justified S Two h d = Full S h d ⊎ (Half S h d ⊎ Nothing S h d)

-- what `decides` answers
decides_found : (g : ℕ) (o : Option ℕ) (d : Decision) → decides g o ≡ Some d → (o ≡ Some d.value) × (NoneDecided d ⊎ ((d.value ≢ 0) × (d.grade ≡ g)))
decides_found g None d p = holds_none p
decides_found g (Some zero) d p =
    let e : Some (decision_on g 0) ≡ Some d = p in
    let q = holds_one refl e in
    (ap {B = Option ℕ} Some (ap (λ (x : Decision). x.value) q), inl (sym (ap (λ (x : Decision). x.value) q), sym (ap (λ (x : Decision). x.grade) q)))
decides_found g (Some (suc v)) d p =
    let e : Some (decision_on g (suc v)) ≡ Some d = p in
    let q = holds_one refl e in
    let z : suc v ≡ d.value = ap (λ (x : Decision). x.value) q in
    (ap {B = Option ℕ} Some z, inr (omega arith, sym (ap (λ (x : Decision). x.grade) q)))

module _ (S : Setting) (law : Lawful S.rule) where
  -- ---- words
  pub second_sound : (h : List Vote) (v : ℕ) → said S h 2 ≡ Some v → Approved S h v
  unfolding said found second approved
  second_sound h v p = memo_sound _ (Approved S) (λ h v q. lowest_found S _ v q) (λ w h v. approved_more S law w h v) h v p

  third_more : (w : Vote) (h : List Vote) (v : ℕ) → Third S h v → Third S (w ∷ h) v
  third_more w h v (inl a) = inl (ample_says_more S law w h 2 v a)
  third_more w h v (inr b) = inr (b.0, two_more S law w h b.1)

  pub third_sound : (h : List Vote) (v : ℕ) → said S h 3 ≡ Some v → Third S h v
  unfolding said found third
  third_sound h v p =
      memo_sound _ (Third S)
      (λ h v q. ⊎_elim (λ a. inl (lowest_found S _ v a).1) (λ b. let k = when_found _ _ _ b in inr (k.1, two_found S h k.0))
      (else_cases (lowest S (λ v. ample_by S.rule (says (seen h) 2 v))) _ v q))
      third_more h v p

  passed_more : (c : ℕ) (w : Vote) (h : List Vote) (v : ℕ) → Passed S c h v → Passed S c (w ∷ h) v
  passed_more c w h v (inl a) = inl (ample_says_more S law w h c v a)
  passed_more c w h v (inr b) = inr (b.0, mixed_more S law w h b.1, ample_speaks_more S law w h c b.2)

  zero_found : (c : ℕ) (h : List Vote) (v : ℕ) → when (mixed S (seen h) && ample_by S.rule (speaks (seen h) c)) 0 ≡ Some v → Passed S c h v
  zero_found c h v q = let k = when_found _ _ _ q in let m = and_parts (mixed S (seen h)) _ k.0 in inr (k.1, mixed_found S h m.0, m.1)

  outcome_found : (h : List Vote) (v : ℕ) → outcome S (seen h) ≡ Some v → Passed S 3 h v
  unfolding outcome
  outcome_found h v q =
      ⊎_elim (zero_found 3 h v) (λ a. inl (lowest_found S _ v a).1) (else_cases (when (mixed S (seen h) && ample_by S.rule (speaks (seen h) 3)) 0) _ v q)

  fifth_found : (h : List Vote) (v : ℕ) → fifth S (seen h) ≡ Some v → Passed S 4 h v
  unfolding fifth
  fifth_found h v q = ⊎_elim (λ a. inl (lowest_found S _ v a).1) (zero_found 4 h v) (else_cases (lowest S (λ v. ample_by S.rule (says (seen h) 4 v))) _ v q)

  found_4 : (d : Depth) (h : List Vote) (v : ℕ) → found S d 4 (seen h) ≡ Some v → outcome S (seen h) ≡ Some v
  unfolding found
  found_4 One h v q = holds_none q
  found_4 Two h v q = q

  found_5 : (d : Depth) (h : List Vote) (v : ℕ) → found S d 5 (seen h) ≡ Some v → fifth S (seen h) ≡ Some v
  unfolding found
  found_5 One h v q = holds_none q
  found_5 Two h v q = q

  pub fourth_sound : (h : List Vote) (v : ℕ) → said S h 4 ≡ Some v → Passed S 3 h v
  unfolding said
  fourth_sound h v p = memo_sound _ (Passed S 3) (λ h v q. outcome_found h v (found_4 _ h v q)) (passed_more 3) h v p

  pub fifth_sound : (h : List Vote) (v : ℕ) → said S h 5 ≡ Some v → Passed S 4 h v
  unfolding said
  fifth_sound h v p = memo_sound _ (Passed S 4) (λ h v q. fifth_found h v (found_5 _ h v q)) (passed_more 4) h v p

  -- ---- decisions
  justified_more : (p : Depth) (w : Vote) (h : List Vote) (d : Decision) → Justified S p h d → Justified S p (w ∷ h) d
  justified_more One w h d v = (passed_more 3 w h _ v.0, v.1)
  justified_more Two w h d (inl a) = inl (a.0, a.1, ample_says_more S law w h 5 _ a.2)
  justified_more Two w h d (inr (inl b)) =
      inr (inl (b.0, b.1, mixed_more S law w h b.2, ample_speaks_more S law w h 5 b.3, strong_says_more S law w h 4 _ b.4))
  justified_more Two w h d (inr (inr c)) = inr (inr (c.0, ample_says_more S law w h 5 0 c.1))

  full_found : (h : List Vote) (d : Decision) → decides 2 (lowest S (λ v. not (eqb v 0) && ample_by S.rule (says (seen h) 5 v))) ≡ Some d → Full S h d
  full_found h d q =
      let k = decides_found 2 _ d q in
      let l = and_parts (not (eqb d.value 0)) _ (lowest_found S _ d.value k.0).1 in
      let nz = eqb-false _ _ (not-true _ l.0) in
      (nz, ⊎_elim (λ z. absurd (nz z.0)) (λ z. z.1) k.1, l.1)

  half_found : (h : List Vote) (d : Decision) → cond (mixed S (seen h) && ample_by S.rule (speaks (seen h) 5)) (decides 1 (lowest S (backed S (seen h)))) None ≡ Some d → Half S h d
  unfolding backed
  half_found h d q =
      let c = cond_found _ _ d q in
      let x = and_parts (mixed S (seen h)) _ c.0 in
      let k = decides_found 1 _ d c.1 in
      let l = and_parts (not (eqb d.value 0) && some_below S.rule.crew (says (seen h) 5 d.value)) _ (lowest_found S _ d.value k.0).1 in
      let nz = eqb-false _ _ (not-true _ (and_parts (not (eqb d.value 0)) _ l.0).0) in
      (nz, ⊎_elim (λ z. absurd (nz z.0)) (λ z. z.1) k.1, mixed_found S h x.0, x.1, l.1)

  nothing_found : (h : List Vote) (d : Decision) → when (ample_by S.rule (says (seen h) 5 0)) (decision_on 0 0) ≡ Some d → Nothing S h d
  nothing_found h d q = let k = when_found _ _ d q in ((ap (λ (x : Decision). x.value) k.1, ap (λ (x : Decision). x.grade) k.1), k.0)

  verdict_found : (p : Depth) (h : List Vote) (d : Decision) → verdict S p (seen h) ≡ Some d → Justified S p h d
  unfolding verdict
  verdict_found One h d q = let k = decides_found 1 _ d q in (outcome_found h d.value k.0, k.1)
  verdict_found Two h d q =
      ⊎_elim (λ a. inl (full_found h d a))
      (λ b. inr (⊎_elim (λ c. inl (half_found h d c)) (λ c. inr (nothing_found h d c))
      (else_cases (cond (mixed S (seen h) && ample_by S.rule (speaks (seen h) 5)) (decides 1 (lowest S (backed S (seen h)))) None) _ d b)))
      (else_cases (decides 2 (lowest S (λ v. not (eqb v 0) && ample_by S.rule (says (seen h) 5 v)))) _ d q)

  pub decided_sound : (h : List Vote) (d : Decision) → decided S h ≡ Some d → Justified S S.depth h d
  unfolding decided
  decided_sound h d p = memo_sound _ (Justified S S.depth) (verdict_found S.depth) (justified_more S.depth) h d p
