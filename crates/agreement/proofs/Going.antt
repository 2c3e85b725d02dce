-- Every run of a method with bounded words can go on until all that the steady boards have posted is counted. Assumes nothing.
use Rattle.std.proofs.Common.{◌≡◌, ℕ, zero, suc, ◌<◌, ◌≤◌, Bool, true, false, cond, not, ◌&&◌, ◌||◌, eqb, ltb, ◌⊎◌, List, [], ◌∷◌, ◌++◌, Some, None, Option, sym, refl, ap, ◌∙◌, subst, inl, inr, ⊎_elim, append_assoc, le_of_suc-le-suc, not-suc-le-zero, eq-or-lt_of_le, arith}
use Rattle.std.proofs.lemmas.Bool.{eqb-true, eq-eqb, ltb-true, lt-ltb, cond_both, and_parts, and_from, or_parts, or_cases, or_right, not-true, not-false, not_from_false}
use Rattle.quorum.specs.Sets.{member}
use Rattle.quorum.specs.Truth.{clash, all_or}
use Rattle.vote.specs.declared.Vote.{Vote}
use Rattle.vote.specs.History.{counted}
use Rattle.vote.specs.Search.{given, all_below}
use Rattle.vote.specs.Setting.{Setting, Protocol}
use Rattle.vote.proofs.Options.{given_found, given_from, else_cases, else_right, when_found, when_from}
use Rattle.vote.proofs.Seeking.{all_found, all_from}
use Rattle.vote.proofs.Counting.{counted_more}
use Rattle.agreement.specs.Runs.{Event, starts, counts, start_of, history, posted, Crew, Steady, Honest, Legal}
use Rattle.agreement.specs.Promises.{KeepsTo, SteadyStarted, SteadyCounted, GoesOn}
use Rattle.agreement.proofs.Running.{grow, start_more, posted_found, start_fits}
use Rattle.agreement.proofs.Sums.{sum, sum_le, sum_lt}

not_all : (n : ℕ) (p : ℕ → Bool) → all_below n p ≡ false → (i : ℕ) × (i < n) × (p i ≡ false)
not_all n p h = ⊎_elim (λ f. clash (all_from n p f) h) (λ k. k) (all_or n p)

-- 1 where the test fails
miss : Bool → ℕ
miss b = cond b 0 1

miss_le : (a b : Bool) → (a ≡ true → b ≡ true) → miss b ≤ miss a
unfolding miss
miss_le true b f = let e = f refl in rw e (omega arith)
miss_le false true f = omega arith
miss_le false false f = omega arith

miss_lt : (a b : Bool) → a ≡ false → b ≡ true → miss b < miss a
unfolding miss
miss_lt a b p q = rw (p, q) (omega arith)

-- the words of a method: kinds 1 to 5, values up to the last character
abbrev pub Bounded : Setting → Protocol → Type 0
Bounded S M = (s : ℕ) (h : List Vote) (c v : ℕ) → s ≤ S.characters → M.posts s h c v ≡ true → (1 ≤ c) × (c < 6) × (v ≤ S.characters)

module _ {S : Setting} (M : Protocol) (C : Crew S) (bounded : Bounded S M) where
  pub steady_honest : (i : ℕ) → Steady M C i → Honest M C i
  steady_honest i si = (si.0, ap (λ (b : Bool). M.may_lie && b) si.1 ∙ none M.may_lie)
    where
      none : (b : Bool) → (b && false) ≡ false
      none true = refl
      none false = refl

  steady : ℕ → Bool
  steady i = ltb i S.rule.crew && not (member i C.listed)

  steady_found : (i : ℕ) → steady i ≡ true → Steady M C i
  unfolding steady
  steady_found i p = let k = and_parts (ltb i S.rule.crew) _ p in (ltb-true _ _ k.0, not-true _ k.1)

  steady_from : (i : ℕ) → Steady M C i → steady i ≡ true
  unfolding steady
  steady_from i si = and_from _ _ (lt-ltb _ _ si.0) (not_from_false _ si.1)

  -- ---- start all
  module _ (start : ℕ → ℕ) (fits : (i : ℕ) → (1 ≤ start i) × (start i ≤ S.characters)) where
    -- the run with the first n boards started
    with_starts : ℕ → List Event → List Event
    with_starts zero r = []
    with_starts (suc n) r = cond (steady n && not (given (start_of (with_starts n r ++ r) n))) (starts n (start n) ∷ with_starts n r) (with_starts n r)

    none_given : (o : Option ℕ) → given o ≡ false → o ≡ None
    none_given None p = refl
    none_given (Some s) p = clash refl p

    starts_legal : (n : ℕ) (r : List Event) → Legal M C r → Legal M C (with_starts n r ++ r)
    unfolding with_starts
    starts_legal zero r lg = lg
    starts_legal (suc n) r lg =
        let ih = starts_legal n r lg in
        cond_both (steady n && not (given (start_of (with_starts n r ++ r) n))) (starts n (start n) ∷ with_starts n r) (with_starts n r) (λ x. Legal M C (x ++ r))
        (λ e. let k = and_parts (steady n) _ e in ((steady_honest n (steady_found n k.0), none_given _ (not-true _ k.1), (fits n).0, (fits n).1), ih)) (λ e. ih)

    start_keeps : (n : ℕ) (r : List Event) → KeepsTo M C start r → KeepsTo M C start (starts n (start n) ∷ r)
    unfolding start_of
    start_keeps n r k i s hi p =
        ⊎_elim (λ e. k i s hi e) (λ e. let q = when_found _ _ _ e in ap start (sym (eqb-true n i q.0)) ∙ sym q.1) (else_cases (start_of r i) _ s p)

    starts_keep : (n : ℕ) (r : List Event) → KeepsTo M C start r → KeepsTo M C start (with_starts n r ++ r)
    unfolding with_starts
    starts_keep zero r k = k
    starts_keep (suc n) r k =
        let ih = starts_keep n r k in
        cond_both (steady n && not (given (start_of (with_starts n r ++ r) n))) (starts n (start n) ∷ with_starts n r) (with_starts n r) (λ x. KeepsTo M C start (x ++ r))
        (λ e. start_keeps n (with_starts n r ++ r) ih) (λ e. ih)

    started_now : (n : ℕ) (r : List Event) → given (start_of (starts n (start n) ∷ r) n) ≡ true
    unfolding start_of
    started_now n r = else_right (start_of r n) _ (when_from _ _ (eq-eqb n n refl))

    -- a board that is steady and was passed over has started before
    passed_over : (a b : Bool) → a ≡ true → (a && not b) ≡ false → b ≡ true
    passed_over true true p q = refl
    passed_over true false p q = clash refl q
    passed_over false b p q = clash p refl

    started_more : (e : Event) (r : List Event) (i : ℕ) → given (start_of r i) ≡ true → given (start_of (e ∷ r) i) ≡ true
    started_more e r i p = let k = given_found _ p in given_from (start_more e r i k.0 k.1)

    starts_start : (n : ℕ) (r : List Event) (i : ℕ) → i < n → Steady M C i → given (start_of (with_starts n r ++ r) i) ≡ true
    unfolding with_starts
    starts_start zero r i l si = absurd (not-suc-le-zero l)
    starts_start (suc n) r i l si =
        ⊎_elim
        (λ (e : i ≡ n).
        cond_both (steady n && not (given (start_of (with_starts n r ++ r) n))) (starts n (start n) ∷ with_starts n r) (with_starts n r) (λ x. given (start_of (x ++ r) i) ≡ true)
        (λ q. subst (λ (j : ℕ). given (start_of (starts n (start n) ∷ (with_starts n r ++ r)) j) ≡ true) (sym e) (started_now n (with_starts n r ++ r)))
        (λ q. subst (λ (j : ℕ). given (start_of (with_starts n r ++ r) j) ≡ true) (sym e) (passed_over _ _ (sym (ap steady e) ∙ steady_from i si) q)))
        (λ (b : i < n).
        let ih = starts_start n r i b si in
        cond_both (steady n && not (given (start_of (with_starts n r ++ r) n))) (starts n (start n) ∷ with_starts n r) (with_starts n r) (λ x. given (start_of (x ++ r) i) ≡ true)
        (λ q. started_more (starts n (start n)) (with_starts n r ++ r) i ih) (λ q. ih))
        (eq-or-lt_of_le (le_of_suc-le-suc l))

  -- ---- count all
  -- how many words of any sender, kind and value are not counted at a board yet
  pub uncounted : List Event → ℕ
  uncounted r =
      sum S.rule.crew (λ i. sum S.rule.crew (λ j. sum 6 (λ c. sum (suc S.characters) (λ v. miss (counted (history r j) c v i)))))

  counted_later : (a : ℕ) (w : Vote) (r : List Event) (j c v i : ℕ) → counted (history r j) c v i ≡ true → counted (history (counts a w ∷ r) j) c v i ≡ true
  unfolding history
  counted_later a w r j c v i p = grow (λ h. counted h c v i ≡ true) (eqb a j) w (history r j) (counted_more w (history r j) c v i) p

  abbrev pub vote : ℕ → ℕ → ℕ → Vote
  vote i c v = record { sender = i; kind = c; value = v }

  counted_now : (r : List Event) (j c v i : ℕ) → counted (history (counts j (vote i c v) ∷ r) j) c v i ≡ true
  unfolding history counted
  counted_now r j c v i =
      cond_both (eqb j j) (vote i c v ∷ history r j) (history r j) (λ h. counted h c v i ≡ true)
      (λ e. or_right (counted (history r j) c v i) _ (and_from _ _ (and_from _ _ (eq-eqb c c refl) (eq-eqb i i refl)) (eq-eqb v v refl))) (λ e. clash (eq-eqb j j refl) e)

  pub fewer : (r : List Event) (i j c v : ℕ) → i < S.rule.crew → j < S.rule.crew → c < 6 → v ≤ S.characters → counted (history r j) c v i ≡ false
      → uncounted (counts j (vote i c v) ∷ r) < uncounted r
  unfolding uncounted
  fewer r i j c v li lj lc lv p =
      let le : (i' j' c' v' : ℕ) → miss (counted (history (counts j (vote i c v) ∷ r) j') c' v' i') ≤ miss (counted (history r j') c' v' i') =
      λ i' j' c' v'. miss_le _ _ (counted_later j (vote i c v) r j' c' v' i') in
      sum_lt S.rule.crew _ _ (λ i'. sum_le S.rule.crew _ _ (λ j'. sum_le 6 _ _ (λ c'. sum_le (suc S.characters) _ _ (λ v'. le i' j' c' v')))) i li
      (sum_lt S.rule.crew _ _ (λ j'. sum_le 6 _ _ (λ c'. sum_le (suc S.characters) _ _ (λ v'. le i j' c' v'))) j lj
      (sum_lt 6 _ _ (λ c'. sum_le (suc S.characters) _ _ (λ v'. le i j c' v')) c lc
      (sum_lt (suc S.characters) _ _ (λ v'. le i j c v') v (omega (arith, lv)) (miss_lt _ _ p (counted_now r j c v i)))))

  -- a word that is still to be counted
  abbrev pub Due : List Event → Type 0
  Due r =
      (i : ℕ) × (j : ℕ) × (c : ℕ) × (v : ℕ) × Steady M C i × Steady M C j × (c < 6) × (v ≤ S.characters) × (posted M r i c v ≡ true) × (counted (history r j) c v i ≡ false)

  fine : List Event → ℕ → ℕ → ℕ → ℕ → Bool
  fine r i j c v = not (steady i && (steady j && posted M r i c v)) || counted (history r j) c v i

  pub due_or : (r : List Event) → Legal M C r → Due r ⊎ SteadyCounted M C r
  unfolding fine
  due_or r lg =
      ⊎_elim
      (λ f. inr (λ i j c v si sj p.
      let s = posted_found M r i c v p in
      let b = bounded s.0 (history r i) c v (start_fits M C r lg i s.0 s.1).1 s.2 in
      ⊎_elim (λ n. clash (and_from _ _ (steady_from i si) (and_from _ _ (steady_from j sj) p)) (not-true _ n)) (λ q. q)
      (or_cases _ _ (all_found (suc S.characters) (fine r i j c) (all_found 6 (λ c. all_below (suc S.characters) (fine r i j c))
      (all_found S.rule.crew (λ j. all_below 6 (λ c. all_below (suc S.characters) (fine r i j c))) (f i si.0) j sj.0) c b.1) v (omega (arith, b.2))))))
      (λ x.
      let y = not_all S.rule.crew (λ j. all_below 6 (λ c. all_below (suc S.characters) (fine r x.0 j c))) x.2 in
      let z = not_all 6 (λ c. all_below (suc S.characters) (fine r x.0 y.0 c)) y.2 in
      let u = not_all (suc S.characters) (fine r x.0 y.0 z.0) z.2 in
      let e = or_parts (not (steady x.0 && (steady y.0 && posted M r x.0 z.0 u.0))) _ u.2 in
      let e₁ = and_parts (steady x.0) _ (not-false _ e.0) in
      let e₂ = and_parts (steady y.0) _ e₁.1 in
      inl (x.0, y.0, z.0, u.0, steady_found x.0 e₁.0, steady_found y.0 e₂.0, z.1, omega (arith, u.1), e₂.1, e.1))
      (all_or S.rule.crew (λ i. all_below S.rule.crew (λ j. all_below 6 (λ c. all_below (suc S.characters) (fine r i j c)))))

  -- starts stay as they are while votes are counted
  abbrev SameStarts : List Event → List Event → Type 0
  SameStarts x r = (i : ℕ) → start_of (x ++ r) i ≡ start_of r i

  abbrev Ended : List Event → Type 0
  Ended r = Legal M C r × SteadyStarted M C r × SteadyCounted M C r

  count_same : (j : ℕ) (w : Vote) (r : List Event) (i : ℕ) → start_of (counts j w ∷ r) i ≡ start_of r i
  unfolding start_of
  count_same j w r i = refl

  -- a way to go on from the run with one event more, as a way to go on from the run
  one_more : (e : Event) (r x : List Event) → Ended (x ++ (e ∷ r)) → SameStarts x (e ∷ r) → ((i : ℕ) → start_of (e ∷ r) i ≡ start_of r i)
      → (y : List Event) × Ended (y ++ r) × SameStarts y r
  one_more e r x done same one =
      let a = append_assoc x (e ∷ []) r in (x ++ (e ∷ []), subst Ended (sym a) done, λ i. ap (λ (y : List Event). start_of y i) a ∙ same i ∙ one i)

  count_all : (fuel : ℕ) (r : List Event) → uncounted r ≤ fuel → Legal M C r → SteadyStarted M C r → (x : List Event) × Ended (x ++ r) × SameStarts x r
  count_all zero r l lg st =
      ⊎_elim
      (λ d. absurd (let q = fewer r d.0 d.1 d.2 d.3 d.4.0 d.5.0 d.6 d.7 d.9 in omega (arith, l, q)))
      (λ a. ([], (lg, st, a), λ i. refl))
      (due_or r lg)
  count_all (suc fuel) r l lg st =
      ⊎_elim
      (λ d.
      let w : Vote = vote d.0 d.2 d.3 in
      let e : Event = counts d.1 w in
      let q = fewer r d.0 d.1 d.2 d.3 d.4.0 d.5.0 d.6 d.7 d.9 in
      let same = count_same d.1 w r in
      let z = count_all fuel (e ∷ r) (omega (arith, l, q)) ((steady_honest d.1 d.5, st d.1 d.5, λ h. d.8), lg) (λ i si. ap (λ (o : Option ℕ). given o) (same i) ∙ st i si) in
      one_more e r z.0 z.1 z.2 same)
      (λ a. ([], (lg, st, a), λ i. refl))
      (due_or r lg)

  pub goes_on : (r : List Event) → Legal M C r → GoesOn M C r
  goes_on r lg start fits =
      let x = with_starts start fits S.rule.crew r in
      let lx = starts_legal start fits S.rule.crew r lg in
      let z = count_all (uncounted (x ++ r)) (x ++ r) (omega arith) lx (λ i si. starts_start start fits S.rule.crew r i si.0 si) in
      let a = sym (append_assoc z.0 x r) in
      let e : Ended ((z.0 ++ x) ++ r) = subst Ended a z.1 in (
        z.0 ++ x,
        e.0,
        λ k i s hi p. starts_keep start fits S.rule.crew r k i s hi (sym (ap (λ (y : List Event). start_of y i) (sym a) ∙ z.2 i) ∙ p),
        e.1,
        e.2,
      )
