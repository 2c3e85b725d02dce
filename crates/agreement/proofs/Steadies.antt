-- The facts about strong and ample sets, for the steady boards of a crew. Assumes nothing.
use Rattle.std.proofs.Common.{◌≡◌, ℕ, ◌≤◌, Bool, true, false, ◌||◌, ◌⊎◌, refl, inl, inr, ⊎_elim}
use Rattle.std.proofs.lemmas.Bool.{or_cases, or_parts}
use Rattle.quorum.specs.Sets.{member}
use Rattle.quorum.specs.Rules.{strong_by, ample_by}
use Rattle.quorum.specs.Truth.{clash, all_or}
use Rattle.quorum.proofs.Tested.{strong_by_outside, outside_ample_by, ample_by_meet_outside, ample_by_outside_strong, split_strong_by}
use Rattle.vote.specs.Setting.{Setting, Protocol}
use Rattle.agreement.specs.Runs.{Crew, Steady}

abbrev pub Strong : Setting → (ℕ → Bool) → Type 0
Strong S p = strong_by S.rule p ≡ true

abbrev pub Ample : Setting → (ℕ → Bool) → Type 0
Ample S p = ample_by S.rule p ≡ true

module _ {S : Setting} (M : Protocol) (C : Crew S) where
  -- a strong set has a steady board
  pub strong_steady : (p : ℕ → Bool) → Strong S p → (i : ℕ) × Steady M C i × (p i ≡ true)
  strong_steady p h = let k = strong_by_outside C.lawful p C.listed h C.may_fail in (k.0, (k.1, k.3), k.2)

  -- what has all steady boards is ample
  pub steady_ample : (p : ℕ → Bool) → ((i : ℕ) → Steady M C i → p i ≡ true) → Ample S p
  steady_ample p f = outside_ample_by C.lawful C.fits C.listed p C.may_fail (λ i l e. f i (l, e))

  -- for a test of boards: all steady ones pass, or a steady one does not
  pub steady_or : (p : ℕ → Bool) → ((i : ℕ) → Steady M C i → p i ≡ true) ⊎ ((i : ℕ) × Steady M C i × (p i ≡ false))
  steady_or p =
      ⊎_elim
      (λ f. inl (λ i si. ⊎_elim (λ b. clash b si.1) (λ q. q) (or_cases (member i C.listed) _ (f i si.0))))
      (λ k. let e = or_parts (member k.0 C.listed) (p k.0) k.2 in inr (k.0, (k.1, e.0), e.1))
      (all_or S.rule.crew (λ i. member i C.listed || p i))

  module _ (three : 3 ≤ S.rule.cover) where
    -- two ample sets share a steady board
    pub meet : (p q : ℕ → Bool) → Ample S p → Ample S q → (i : ℕ) × Steady M C i × (p i ≡ true) × (q i ≡ true)
    meet p q h g = let k = ample_by_meet_outside C.lawful three p q C.listed h g C.may_fail in (k.0, (k.1, k.4), k.2, k.3)

    -- the steady part of an ample set is strong
    pub ample_strong : (p q : ℕ → Bool) → ((i : ℕ) → Steady M C i → p i ≡ true → q i ≡ true) → Ample S p → Strong S q
    ample_strong p q f h = ample_by_outside_strong C.lawful three p q C.listed h C.may_fail (λ i l e g. f i (l, e) g)

    -- the steady boards in two parts: one of them is strong
    pub split_strong : (p q : ℕ → Bool) → ((i : ℕ) → Steady M C i → p i ≡ false → q i ≡ true) → strong_by S.rule p ≡ false → Strong S q
    split_strong p q f h = split_strong_by C.lawful three p q C.listed h C.may_fail (λ i l e g. f i (l, e) g)

    pub a_steady : (i : ℕ) × Steady M C i
    a_steady = let k = meet (λ i. true) (λ i. true) (steady_ample (λ i. true) (λ i t. refl)) (steady_ample (λ i. true) (λ i t. refl)) in (k.0, k.1)
