-- The facts about strong and ample sets once more, for sets that are given by a test on the boards of the crew. Assumes nothing.
use Rattle.std.proofs.Common.{◌≡◌, ℕ, ◌<◌, ◌≤◌, Bool, true, false, sym, ◌∙◌}
use Rattle.quorum.specs.Limits.{max_crew}
use Rattle.quorum.specs.Sets.{member, set_of}
use Rattle.quorum.specs.Rules.{Rule, Lawful, strong_by, ample_by}
use Rattle.quorum.specs.Members.{member_set_of, member_below}
use Rattle.quorum.proofs.Sharing.{strong_outside, strong_grows, ample_meet, ample_meet_outside, ample_outside_strong, split_strong, ample_grows, outside_ample}

module _ {R : Rule} (law : Lawful R) where
  in_set : (p : ℕ → Bool) (i : ℕ) → i < R.crew → p i ≡ true → member i (set_of R.crew p) ≡ true
  in_set p i l h = member_set_of R.crew p i l ∙ h

  of_set : (p : ℕ → Bool) (i : ℕ) → i < R.crew → member i (set_of R.crew p) ≡ true → p i ≡ true
  of_set p i l h = sym (member_set_of R.crew p i l) ∙ h

  pub strong_by_grows : (p q : ℕ → Bool) → ((i : ℕ) → i < R.crew → p i ≡ true → q i ≡ true) → strong_by R p ≡ true → strong_by R q ≡ true
  strong_by_grows p q f h = strong_grows law _ _ (λ i m. let l = member_below R.crew p i m in in_set q i l (f i l (of_set p i l m))) h

  pub ample_by_grows : (p q : ℕ → Bool) → ((i : ℕ) → i < R.crew → p i ≡ true → q i ≡ true) → ample_by R p ≡ true → ample_by R q ≡ true
  ample_by_grows p q f h = ample_grows law _ _ (λ i l m. in_set q i l (f i l (of_set p i l m))) h

  pub strong_by_outside : (p : ℕ → Bool) (b : ℕ) → strong_by R p ≡ true → R.fails b ≡ true → (i : ℕ) × (i < R.crew) × (p i ≡ true) × (member i b ≡ false)
  strong_by_outside p b h f =
      let k = strong_outside law (set_of R.crew p) b h f in
      let l = member_below R.crew p k.0 k.1 in
      (k.0, l, of_set p k.0 l k.1, k.2)

  -- what has every board outside a set of the family is ample
  pub outside_ample_by : R.crew ≤ max_crew → (b : ℕ) (p : ℕ → Bool) → R.fails b ≡ true → ((i : ℕ) → i < R.crew → member i b ≡ false → p i ≡ true) → ample_by R p ≡ true
  outside_ample_by small b p f w = outside_ample law small b (set_of R.crew p) f (λ i l e. in_set p i l (w i l e))

  pub ample_by_meet : 2 ≤ R.cover → (p q : ℕ → Bool) → ample_by R p ≡ true → ample_by R q ≡ true → (i : ℕ) × (i < R.crew) × (p i ≡ true) × (q i ≡ true)
  ample_by_meet two p q h g =
      let k = ample_meet law two (set_of R.crew p) (set_of R.crew q) h g in (k.0, k.1, of_set p k.0 k.1 k.2, of_set q k.0 k.1 k.3)

  pub ample_by_meet_outside : 3 ≤ R.cover → (p q : ℕ → Bool) (b : ℕ) → ample_by R p ≡ true → ample_by R q ≡ true → R.fails b ≡ true
      → (i : ℕ) × (i < R.crew) × (p i ≡ true) × (q i ≡ true) × (member i b ≡ false)
  ample_by_meet_outside three p q b h g f =
      let k = ample_meet_outside law three (set_of R.crew p) (set_of R.crew q) b h g f in
      (k.0, k.1, of_set p k.0 k.1 k.2, of_set q k.0 k.1 k.3, k.4)

  pub ample_by_outside_strong : 3 ≤ R.cover → (p q : ℕ → Bool) (b : ℕ) → ample_by R p ≡ true → R.fails b ≡ true
      → ((i : ℕ) → i < R.crew → member i b ≡ false → p i ≡ true → q i ≡ true) → strong_by R q ≡ true
  ample_by_outside_strong three p q b h f w =
      ample_outside_strong law three (set_of R.crew p) b (set_of R.crew q) h f (λ i l m e. in_set q i l (w i l e (of_set p i l m)))

  pub split_strong_by : 3 ≤ R.cover → (p q : ℕ → Bool) (b : ℕ) → strong_by R p ≡ false → R.fails b ≡ true
      → ((i : ℕ) → i < R.crew → member i b ≡ false → p i ≡ false → q i ≡ true) → strong_by R q ≡ true
  split_strong_by three p q b h f w =
      split_strong law three (set_of R.crew p) b (set_of R.crew q) h f
      (λ i l m e. in_set q i l (w i l e (sym (member_set_of R.crew p i l) ∙ m)))
