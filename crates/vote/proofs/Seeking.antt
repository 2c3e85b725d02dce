-- The least number below a bound that passes a test: what it is, and the steps of a loop that looks for it. Assumes nothing.
use Rattle.std.proofs.Common.{◌≡◌, ℕ, zero, suc, ◌+◌, ◌<◌, ◌≤◌, Bool, true, false, not, ◌&&◌, eqb, leb, Some, None, Option, MatchOption, sym, refl, ap, ◌∙◌, ap₂, ⊎_elim, zero-le, le_of_suc-le-suc, not-suc-le-zero, eq-or-lt_of_le, arith}
use Rattle.std.proofs.lemmas.Bool.{ne_eqb, eqb-false, le-leb, leb-true, cases_eq, cases_Bool, and_parts, and_from, not-true, not_from_false}
use Rattle.quorum.specs.Sets.{member, set_of}
use Rattle.quorum.specs.Truth.{clash, same_truth, false_since, false_unless}
use Rattle.quorum.specs.Members.{member_set_of, member_none}
use Rattle.quorum.proofs.Masks.{set_of_ext, set_of_is}
use Rattle.vote.specs.Search.{or_else, when, given, seek, all_below}
use Rattle.vote.proofs.Options.{given_found, holds_one, holds_none, else_cases, else_left, else_right, else_keeps, when_found, when_from}

-- ---- what is found
pub seek_found : (n : ℕ) (p : ℕ → Bool) (v : ℕ) → seek n p ≡ Some v → (v < n) × (p v ≡ true)
unfolding seek
seek_found zero p v h = holds_none h
seek_found (suc n) p v h =
    ⊎_elim (λ e. let k = seek_found n p v e in (omega (arith, k.0), k.1))
    (λ e. let k = when_found (p n) n v e in (omega (arith, k.1), rw k.1 k.0))
    (else_cases (seek n p) (when (p n) n) v h)

pub seek_from : (n : ℕ) (p : ℕ → Bool) (v : ℕ) → v < n → p v ≡ true → given (seek n p) ≡ true
unfolding seek
seek_from zero p v h q = absurd (not-suc-le-zero h)
seek_from (suc n) p v h q =
    ⊎_elim (λ (e : v ≡ n). else_right (seek n p) (when (p n) n) (when_from (p n) n (rw e at q)))
    (λ (e : v < n). else_left (seek n p) (when (p n) n) (seek_from n p v e q))
    (eq-or-lt_of_le (le_of_suc-le-suc h))

pub seek_least : (n : ℕ) (p : ℕ → Bool) (u v : ℕ) → seek n p ≡ Some u → v < n → p v ≡ true → u ≤ v
unfolding seek
seek_least zero p u v e h q = absurd (not-suc-le-zero h)
seek_least (suc n) p u v e h q =
    ⊎_elim (λ (r : v ≡ n). let k = seek_found (suc n) p u e in omega (arith, k.0))
    (λ (r : v < n). let g = given_found (seek n p) (seek_from n p v r q) in let i = seek_least n p g.0 v g.1 r q in let d = holds_one e (else_keeps _ g.1) in omega arith)
    (eq-or-lt_of_le (le_of_suc-le-suc h))

-- tests that agree below the bound find the same
pub seek_ext : (n : ℕ) (p q : ℕ → Bool) → ((v : ℕ) → v < n → p v ≡ q v) → seek n p ≡ seek n q
unfolding seek
seek_ext zero p q f = refl
seek_ext (suc n) p q f = ap₂ (λ (a : Option ℕ) (b : Bool). or_else a (when b n)) (seek_ext n p q (λ v h. f v (omega arith))) (f n (omega arith))

-- ---- all below a bound pass
pub all_found : (n : ℕ) (p : ℕ → Bool) → all_below n p ≡ true → (i : ℕ) → i < n → p i ≡ true
all_found n p h i l =
    ⊎_elim (λ q. q) (λ q. clash (seek_from n (λ i. not (p i)) i l (not_from_false _ q)) (not-true (given (seek n (λ i. not (p i)))) h)) (cases_Bool (p i))

pub all_from : (n : ℕ) (p : ℕ → Bool) → ((i : ℕ) → i < n → p i ≡ true) → all_below n p ≡ true
all_from n p f =
    ⊎_elim
    (λ e. let k = given_found (seek n (λ i. not (p i))) e in let m = seek_found n (λ i. not (p i)) k.0 k.1 in clash (f k.0 m.0) (not-true (p k.0) m.1))
    (λ e. not_from_false _ e)
    (cases_Bool (given (seek n (λ i. not (p i)))))

-- ---- a look from 0 up to k: what passed first, with what came before it, or that nothing passed
pub nothing_below : (n : ℕ) (p : ℕ → Bool) → ((v : ℕ) → v < n → p v ≡ false) → seek n p ≡ None
unfolding seek
nothing_below zero p f = refl
nothing_below (suc n) p f = rw (nothing_below n p (λ v h. f v (omega arith)), f n (omega arith))

here : (n m : ℕ) (p : ℕ → Bool) → m < n → p m ≡ true → ((v : ℕ) → v < m → p v ≡ false) → seek n p ≡ Some m
unfolding seek
here zero m p l t f = absurd (not-suc-le-zero l)
here (suc n) m p l t f =
    ⊎_elim (λ (e : m ≡ n). let b : p n ≡ true = rw e at t in rw (nothing_below n p (λ v h. f v (omega arith)), b) (ap {B = Option ℕ} Some (sym e)))
    (λ (e : m < n). rw (here n m p e t f))
    (eq-or-lt_of_le (le_of_suc-le-suc l))

-- where no number but u can pass, u is asked alone
pub seek_own : (n : ℕ) (p : ℕ → Bool) (u : ℕ) → u < n → ((v : ℕ) → v < n → (v ≡ u → ⊥) → p v ≡ false) → seek n p ≡ when (p u) u
seek_own n p u l f =
    ⊎_elim (λ (t : p u ≡ true). rw t (here n u p l t (λ v h. f v (omega arith) (omega arith))))
    (λ (t : p u ≡ false). rw t (nothing_below n p (λ v h. ⊎_elim (λ (z : v ≡ u). ap p z ∙ t) (f v h) (cases_eq v u))))
    (cases_Bool (p u))

pub seek_first : (k : ℕ) (p : ℕ → Bool) (r : Option ℕ)
    → MatchOption r ((v : ℕ) → 0 ≤ v → v < k + 1 → v ≤ k → p v ≡ false) (λ i. (0 ≤ i) × (i < k + 1) × (i ≤ k → p i ≡ true) × ((v : ℕ) → 0 ≤ v → v < i → v ≤ k → p v ≡ false))
    → r ≡ seek (suc k) p
seek_first k p None f = sym (nothing_below (suc k) p (λ v h. f v zero-le (omega arith) (omega arith)))
seek_first k p (Some i) f = sym (here (suc k) i p (omega (arith, f.1)) (f.2 (omega (arith, f.1))) (λ v h. f.3 v zero-le h (omega (arith, f.1))))

-- ---- a set that is not empty has a board
pub set_of_none : (n : ℕ) → set_of n (λ i. false) ≡ 0
set_of_none n = set_of_is n 0 (λ i. false) (λ i h. member_none i) (λ i h. member_none i)

pub some_in : (n : ℕ) (p : ℕ → Bool) → not (eqb (set_of n p) 0) ≡ given (seek n p)
some_in n p = ⊎_elim some none (cases_Bool (given (seek n p)))
  where
    some : given (seek n p) ≡ true → not (eqb (set_of n p) 0) ≡ given (seek n p)
    some t =
        let a = given_found _ t in
        let b = seek_found n p a.0 a.1 in
        ap not (ne_eqb (set_of n p) 0 (λ z. clash (sym (ap (member a.0) z) ∙ member_set_of n p a.0 b.0 ∙ b.1) (member_none a.0))) ∙ sym t

    none : given (seek n p) ≡ false → not (eqb (set_of n p) 0) ≡ given (seek n p)
    none t = ap not (empty (set_of_ext n p (λ i. false) (λ i h. false_since (p i) _ (seek_from n p i h) t) ∙ set_of_none n)) ∙ sym t
      where
        empty : set_of n p ≡ 0 → eqb (set_of n p) 0 ≡ true
        empty z = rw z

-- ---- two that pass, by the lowest of them
module _ (n : ℕ) (p : ℕ → Bool) where
  abbrev both : Bool
  both = given (seek n (λ u. p u && given (seek n (λ v. p v && not (eqb u v)))))

  pub two_none : seek n p ≡ None → false ≡ both
  two_none e = sym (false_unless both (λ t. let a = given_found _ t in let b = seek_found n _ a.0 a.1 in clash (seek_from n p a.0 b.0 (and_parts (p a.0) _ b.1).0) (ap given e)))

  pub two_some : (u : ℕ) → seek n p ≡ Some u → given (seek n (λ v. leb (u + 1) v && p v)) ≡ both
  two_some u e = same_truth _ _ into back
    where
      into : given (seek n (λ v. leb (u + 1) v && p v)) ≡ true → both ≡ true
      into t =
          let a = given_found _ t in
          let b = seek_found n _ a.0 a.1 in
          let k = and_parts (leb (u + 1) a.0) _ b.1 in
          let l = leb-true (u + 1) a.0 k.0 in
          let s = seek_found n p u e in
          seek_from n _ u s.0 (and_from _ _ s.1 (seek_from n _ a.0 b.0 (and_from _ _ k.1 (not_from_false _ (ne_eqb u a.0 (omega arith))))))

      above : (v : ℕ) → v < n → p v ≡ true → (v ≡ u → ⊥) → given (seek n (λ v. leb (u + 1) v && p v)) ≡ true
      above v h q ne = let m = seek_least n p u v e h q in seek_from n _ v h (and_from _ _ (le-leb (u + 1) v (omega arith)) q)

      back : both ≡ true → given (seek n (λ v. leb (u + 1) v && p v)) ≡ true
      back t =
          let a = given_found _ t in
          let b = seek_found n _ a.0 a.1 in
          let k = and_parts (p a.0) _ b.1 in
          let a' = given_found _ k.1 in
          let b' = seek_found n _ a'.0 a'.1 in
          let k' = and_parts (p a'.0) _ b'.1 in
          let apart = eqb-false a.0 a'.0 (not-true (eqb a.0 a'.0) k'.1) in
          ⊎_elim (λ (q : a.0 ≡ u). above a'.0 b'.0 k'.0 (λ z. apart (q ∙ sym z)))
          (λ (q : a.0 ≡ u → ⊥). above a.0 b.0 k.0 q)
          (cases_eq a.0 u)
