-- The tests of the echo method as statements about what is counted. Once true, each stays true as more is counted. Assumes nothing.
use Rattle.std.proofs.Common.{◌≡◌, ℕ, ◌≤◌, Bool, true, eqb, ◌≢◌, ◌⊎◌, List, ◌∷◌, Some, inl, inr, ⊎_elim, arith}
use Rattle.std.proofs.lemmas.Bool.{eqb-true, ne_eqb, eqb-false, and_parts, and_from, or_cases, or_left, or_right, not-true, not_from_false}
use Rattle.quorum.specs.Rules.{Lawful, strong_by, ample_by}
use Rattle.quorum.proofs.Tested.{strong_by_grows, ample_by_grows}
use Rattle.vote.specs.declared.Vote.{Vote}
use Rattle.vote.specs.History.{counted, first, seen, says, speaks}
use Rattle.vote.specs.Search.{given}
use Rattle.vote.specs.Setting.{Setting, lowest}
use Rattle.vote.proofs.Options.{given_found}
use Rattle.vote.proofs.Seeking.{seek_found, seek_from, all_found, all_from}
use Rattle.vote.proofs.Counting.{counted_more, says_more, speaks_more}
use Rattle.agreement.specs.Echo.{other, approved, two_approved, mixed, parted, echoes}
use Rattle.agreement.proofs.Steadies.{Strong, Ample}

-- ---- the least value that passes
pub lowest_found : (S : Setting) (p : ℕ → Bool) (v : ℕ) → lowest S p ≡ Some v → (v ≤ S.characters) × (p v ≡ true)
unfolding lowest
lowest_found S p v h = let k = seek_found _ p v h in (omega (arith, k.0), k.1)

pub lowest_from : (S : Setting) (p : ℕ → Bool) (v : ℕ) → v ≤ S.characters → p v ≡ true → given (lowest S p) ≡ true
unfolding lowest
lowest_from S p v l h = seek_from _ p v (omega (arith, l)) h

-- ---- the statements
abbrev pub Approved : Setting → List Vote → ℕ → Type 0
Approved S h v = (v ≤ S.characters) × Ample S (counted h 1 v)

abbrev pub TwoApproved : Setting → List Vote → Type 0
TwoApproved S h = (u : ℕ) × (v : ℕ) × Approved S h u × Approved S h v × (u ≢ v)

abbrev pub Mixed : Setting → List Vote → Type 0
Mixed S h = Approved S h 0 ⊎ TwoApproved S h

abbrev pub Parted : Setting → List Vote → Type 0
Parted S h = (u : ℕ) → u ≤ S.characters → Strong S (λ i. other u (first h 1 i))

-- what has a board post the echo of v, beyond its start
abbrev pub Echoing : Setting → ℕ → List Vote → Type 0
Echoing S v h = Strong S (counted h 1 v) ⊎ ((v ≡ 0) × Parted S h)

module _ (S : Setting) where
  -- ---- the tests and the statements
  pub two_found : (h : List Vote) → two_approved S (seen h) ≡ true → TwoApproved S h
  unfolding two_approved approved
  two_found h p =
      let a = given_found _ p in
      let b = lowest_found S _ a.0 a.1 in
      let k = and_parts (ample_by S.rule (counted h 1 a.0)) _ b.1 in
      let c = given_found _ k.1 in
      let d = lowest_found S _ c.0 c.1 in
      let m = and_parts (ample_by S.rule (counted h 1 c.0)) _ d.1 in
      (a.0, c.0, (b.0, k.0), (d.0, m.0), eqb-false _ _ (not-true _ m.1))

  pub two_from : (h : List Vote) → TwoApproved S h → two_approved S (seen h) ≡ true
  unfolding two_approved approved
  two_from h t =
      lowest_from S _ t.0 t.2.0 (and_from _ _ t.2.1 (lowest_from S _ t.1 t.3.0 (and_from _ _ t.3.1 (not_from_false _ (ne_eqb _ _ t.4)))))

  pub mixed_found : (h : List Vote) → mixed S (seen h) ≡ true → Mixed S h
  unfolding mixed approved
  mixed_found h p = ⊎_elim (λ a. inl (omega arith, a)) (λ t. inr (two_found h t)) (or_cases _ _ p)

  pub mixed_from : (h : List Vote) → Mixed S h → mixed S (seen h) ≡ true
  unfolding mixed approved
  mixed_from h (inl a) = or_left _ _ a.1
  mixed_from h (inr t) = or_right (ample_by S.rule (counted h 1 0)) _ (two_from h t)

  pub parted_found : (h : List Vote) → parted S (seen h) ≡ true → Parted S h
  unfolding parted
  parted_found h p u l = all_found _ _ p u (omega (arith, l))

  pub parted_from : (h : List Vote) → Parted S h → parted S (seen h) ≡ true
  unfolding parted
  parted_from h t = all_from _ _ (λ u l. t u (omega (arith, l)))

  pub echoes_found : (v : ℕ) (h : List Vote) → echoes S v (seen h) ≡ true → Echoing S v h
  unfolding echoes
  echoes_found v h p =
      ⊎_elim (λ a. inl a) (λ b. let k = and_parts (eqb v 0) _ b in inr (eqb-true _ _ k.0, parted_found h k.1)) (or_cases (strong_by S.rule (counted h 1 v)) _ p)

  -- ---- one vote more
  module _ (law : Lawful S.rule) (w : Vote) (h : List Vote) where
    pub approved_more : (v : ℕ) → Approved S h v → Approved S (w ∷ h) v
    approved_more v p = (p.0, ample_by_grows law _ _ (λ i l q. counted_more w h 1 v i q) p.1)

    pub two_more : TwoApproved S h → TwoApproved S (w ∷ h)
    two_more t = (t.0, t.1, approved_more _ t.2, approved_more _ t.3, t.4)

    pub mixed_more : Mixed S h → Mixed S (w ∷ h)
    mixed_more (inl p) = inl (approved_more 0 p)
    mixed_more (inr t) = inr (two_more t)

    pub ample_says_more : (c v : ℕ) → Ample S (says (seen h) c v) → Ample S (says (seen (w ∷ h)) c v)
    ample_says_more c v p = ample_by_grows law _ _ (λ i l q. says_more w h c v i q) p

    pub ample_speaks_more : (c : ℕ) → Ample S (speaks (seen h) c) → Ample S (speaks (seen (w ∷ h)) c)
    ample_speaks_more c p = ample_by_grows law _ _ (λ i l q. speaks_more w h c i q) p

    pub strong_says_more : (c v : ℕ) → Strong S (says (seen h) c v) → Strong S (says (seen (w ∷ h)) c v)
    strong_says_more c v p = strong_by_grows law _ _ (λ i l q. says_more w h c v i q) p
