-- What the laws of a rule give of its strong and ample sets: one lemma over a list of sets, and what follows. Assumes nothing.
use Rattle.std.proofs.Common.{◌≡◌, ℕ, zero, suc, ◌+◌, ◌-◌, ◌^◌, ◌<◌, ◌≤◌, Bool, true, false, not, ◌&&◌, ◌||◌, leb, List, [], ◌∷◌, length, sym, refl, ap, ◌∙◌, ⊎_elim, pow-suc, arith, lit<}
use Rattle.std.proofs.lemmas.Bool.{and_parts, and_from, or_parts, or_right, not-true, not-false, not_from_false, cases_Bool, and_left, le-leb, lt-leb}
use Rattle.quorum.specs.Limits.{max_crew}
use Rattle.std.specs.List.{list_all}
use Rattle.quorum.specs.Sets.{member, rest, Part, in_some, in_each}
use Rattle.quorum.specs.Rules.{Rule, Lawful, strong, ample}
use Rattle.quorum.specs.Facts.{StrongFacts, AmpleFacts}
use Rattle.quorum.specs.Truth.{clash, false_since, all_or}
use Rattle.quorum.specs.Members.{member_lt, member_rest, rest_below}

below_pow : (n : ℕ) → n < 2 ^ n
below_pow zero = lit< tt
below_pow (suc n) = let ih = below_pow n in omega (arith, pow-suc 2 n)

-- ---- the definitions, as equations
pub ample_is : (R : Rule) (s : ℕ) → R.crew ≤ max_crew → ample R s ≡ R.fails (rest R.crew s)
unfolding ample
ample_is R s small = ap (λ (b : Bool). b && R.fails (rest R.crew s)) (le-leb R.crew max_crew small)

-- a crew beyond the limit has no ample set
pub ample_none : (R : Rule) (s : ℕ) → max_crew < R.crew → ample R s ≡ false
unfolding ample
ample_none R s large = and_left _ _ (lt-leb R.crew max_crew large)

-- ---- a list of sets made longer by empty sets
pad : ℕ → List ℕ → List ℕ
pad zero ss = ss
pad (suc k) ss = 0 ∷ pad k ss

pad_length : (k : ℕ) (ss : List ℕ) → length (pad k ss) ≡ k + length ss
unfolding pad
pad_length zero ss = omega arith
pad_length (suc k) ss = omega (arith, pad_length k ss)

pad_holds : (k : ℕ) (ss : List ℕ) (i : ℕ) → in_some i ss ≡ true → in_some i (pad k ss) ≡ true
unfolding pad
pad_holds zero ss i h = h
pad_holds (suc k) ss i h = or_right (member i 0) _ (pad_holds k ss i h)

-- ---- the rests of ample sets, in front of sets of the family
rests : ℕ → List ℕ → List ℕ → List ℕ
rests n [] bs = bs
rests n (s ∷ ss) bs = rest n s ∷ rests n ss bs

rests_length : (n : ℕ) (ss bs : List ℕ) → length (rests n ss bs) ≡ length ss + length bs
unfolding rests
rests_length n [] bs = omega arith
rests_length n (s ∷ ss) bs = omega (arith, rests_length n ss bs)

rests_miss : (n : ℕ) (ss bs : List ℕ) (i : ℕ) → i < n → in_some i (rests n ss bs) ≡ false → (in_each i ss ≡ true) × (in_some i bs ≡ false)
unfolding rests
rests_miss n [] bs i l h = (refl, h)
rests_miss n (s ∷ ss) bs i l h =
    let k = or_parts (member i (rest n s)) (in_some i (rests n ss bs)) h in
    let j = rests_miss n ss bs i l k.1 in
    (and_from _ _ (not-false (member i s) (sym (member_rest n s i l) ∙ k.0)) j.0, j.1)

module _ {R : Rule} (law : Lawful R) where
  pad_fails : (k : ℕ) (ss : List ℕ) → list_all R.fails ss ≡ true → list_all R.fails (pad k ss) ≡ true
  unfolding pad
  pad_fails zero ss h = h
  pad_fails (suc k) ss h = and_from (R.fails 0) _ law.nobody_fails (pad_fails k ss h)

  -- sets of the family, no more than the cover, leave out a board of the crew
  pub left_out : (ss : List ℕ) → length ss ≤ R.cover → list_all R.fails ss ≡ true → (i : ℕ) × (i < R.crew) × (in_some i ss ≡ false)
  left_out ss few h =
      ⊎_elim
      (λ all. absurd (law.never_all (pad (R.cover - length ss) ss) (omega (arith, pad_length (R.cover - length ss) ss)) (pad_fails (R.cover - length ss) ss h)
      (λ i l. pad_holds (R.cover - length ss) ss i (all i l))))
      (λ k. k)
      (all_or R.crew (λ i. in_some i ss))

  -- ---- strong sets
  pub strong_outside : (s b : ℕ) → strong R s ≡ true → R.fails b ≡ true → (i : ℕ) × (member i s ≡ true) × (member i b ≡ false)
  unfolding strong
  strong_outside s b h f =
      ⊎_elim
      (λ all. clash (law.parts_fail s b (λ i m. ⊎_elim (λ e. e) (λ e. clash (all i (member_lt s s i (below_pow s) m)) (rw (m, e))) (cases_Bool (member i b))) f) (not-true _ h))
      (λ k. let e = or_parts (not (member k.0 s)) (member k.0 b) k.2 in (k.0, not-false _ e.0, e.1))
      (all_or s (λ i. not (member i s) || member i b))

  pub strong_grows : (s t : ℕ) → Part s t → strong R s ≡ true → strong R t ≡ true
  unfolding strong
  strong_grows s t w h = not_from_false _ (false_since (R.fails t) (R.fails s) (law.parts_fail s t w) (not-true _ h))

  -- ---- ample sets
  rests_fail : (ss bs : List ℕ) → list_all (ample R) ss ≡ true → list_all R.fails bs ≡ true → list_all R.fails (rests R.crew ss bs) ≡ true
  unfolding rests ample
  rests_fail [] bs h f = f
  rests_fail (s ∷ ss) bs h f =
      let k = and_parts (ample R s) (list_all (ample R) ss) h in
      and_from _ _ (and_parts (leb R.crew max_crew) (R.fails (rest R.crew s)) k.0).1 (rests_fail ss bs k.1 f)

  pub ample_share : (ss bs : List ℕ) → length ss + length bs ≤ R.cover → list_all (ample R) ss ≡ true → list_all R.fails bs ≡ true
      → (i : ℕ) × (i < R.crew) × (in_each i ss ≡ true) × (in_some i bs ≡ false)
  ample_share ss bs few h f =
      let k = left_out (rests R.crew ss bs) (omega (arith, rests_length R.crew ss bs)) (rests_fail ss bs h f) in
      let j = rests_miss R.crew ss bs k.0 k.1 k.2 in
      (k.0, k.1, j.0, j.1)

  pub ample_meet : 2 ≤ R.cover → (s t : ℕ) → ample R s ≡ true → ample R t ≡ true → (i : ℕ) × (i < R.crew) × (member i s ≡ true) × (member i t ≡ true)
  ample_meet two s t p q =
      let k = ample_share (s ∷ t ∷ []) [] two (and_from _ _ p (and_from _ _ q refl)) refl in
      let a = and_parts (member k.0 s) _ k.2 in
      (k.0, k.1, a.0, (and_parts (member k.0 t) true a.1).0)

  pub ample_meet_outside : 3 ≤ R.cover → (s t b : ℕ) → ample R s ≡ true → ample R t ≡ true → R.fails b ≡ true
      → (i : ℕ) × (i < R.crew) × (member i s ≡ true) × (member i t ≡ true) × (member i b ≡ false)
  ample_meet_outside three s t b p q f =
      let k = ample_share (s ∷ t ∷ []) (b ∷ []) three (and_from _ _ p (and_from _ _ q refl)) (and_from _ _ f refl) in
      let a = and_parts (member k.0 s) _ k.2 in
      (k.0, k.1, a.0, (and_parts (member k.0 t) true a.1).0, (or_parts (member k.0 b) false k.3).0)

  pub ample_outside_strong : 3 ≤ R.cover → (s b t : ℕ) → ample R s ≡ true → R.fails b ≡ true
      → ((i : ℕ) → i < R.crew → member i s ≡ true → member i b ≡ false → member i t ≡ true) → strong R t ≡ true
  unfolding strong
  ample_outside_strong three s b t p f w =
      ⊎_elim
      (λ g.
      let k = ample_share (s ∷ []) (b ∷ t ∷ []) three (and_from _ _ p refl) (and_from _ _ f (and_from _ _ g refl)) in
      let o = or_parts (member k.0 b) _ k.3 in
      clash (w k.0 k.1 (and_parts (member k.0 s) true k.2).0 o.0) (or_parts (member k.0 t) false o.1).0)
      (λ g. not_from_false _ g)
      (cases_Bool (R.fails t))

  -- a split of the boards outside a set of the family in two: one of the two is strong
  pub split_strong : 3 ≤ R.cover → (s b t : ℕ) → strong R s ≡ false → R.fails b ≡ true
      → ((i : ℕ) → i < R.crew → member i s ≡ false → member i b ≡ false → member i t ≡ true) → strong R t ≡ true
  unfolding strong
  split_strong three s b t h f w =
      ⊎_elim
      (λ g.
      let k = left_out (s ∷ b ∷ t ∷ []) three (and_from _ _ (not-false _ h) (and_from _ _ f (and_from _ _ g refl))) in
      let o = or_parts (member k.0 s) _ k.2 in
      let q = or_parts (member k.0 b) _ o.1 in
      clash (w k.0 k.1 o.0 q.0) (or_parts (member k.0 t) false q.1).0)
      (λ g. not_from_false _ g)
      (cases_Bool (R.fails t))

  pub ample_grows : (s t : ℕ) → ((i : ℕ) → i < R.crew → member i s ≡ true → member i t ≡ true) → ample R s ≡ true → ample R t ≡ true
  unfolding ample
  ample_grows s t w h =
      let k = and_parts (leb R.crew max_crew) (R.fails (rest R.crew s)) h in
      and_from _ _ k.0 (law.parts_fail (rest R.crew t) (rest R.crew s)
      (λ i m. let l = rest_below R.crew t i m in
      member_rest R.crew s i l ∙ not_from_false _ (false_since _ _ (w i l) (not-true _ (sym (member_rest R.crew t i l) ∙ m)))) k.1)

  -- what has every board outside a set of the family is ample
  pub outside_ample : R.crew ≤ max_crew → (b s : ℕ) → R.fails b ≡ true → ((i : ℕ) → i < R.crew → member i b ≡ false → member i s ≡ true) → ample R s ≡ true
  unfolding ample
  outside_ample small b s f w =
      and_from _ _ (le-leb R.crew max_crew small) (law.parts_fail (rest R.crew s) b
      (λ i m. let l = rest_below R.crew s i m in
      ⊎_elim (λ e. e) (λ e. clash (w i l e) (not-true _ (sym (member_rest R.crew s i l) ∙ m))) (cases_Bool (member i b))) f)

  pub rest_ample : R.crew ≤ max_crew → (b : ℕ) → R.fails b ≡ true → ample R (rest R.crew b) ≡ true
  rest_ample small b f = outside_ample small b (rest R.crew b) f (λ i l e. member_rest R.crew b i l ∙ not_from_false _ e)

  -- ---- all of it, as the contracts name it
  pub strong_facts : StrongFacts R
  strong_facts = record { has_a_board_outside = strong_outside; grows = strong_grows }

  pub ample_facts : AmpleFacts R
  ample_facts = record {
    share_a_board = ample_share;
    two_meet = ample_meet;
    two_meet_outside = ample_meet_outside;
    part_outside_is_strong = ample_outside_strong;
    rest_is_ample = rest_ample;
    grows = ample_grows;
  }
