-- The family of the parts of listed sets keeps the four laws, where no `cover` listed sets hold the whole crew. Assumes nothing.
use Rattle.std.specs.Prelude.{◌≡◌, ℕ, zero, suc, ◌-◌, ◌^◌, ◌<◌, Bool, true, false, not, ◌||◌, List, [], ◌∷◌, length, ◌==◌, ◌≢◌, bit_or, refl}
use Rattle.std.proofs.Math.Path.{sym, ap}
use Rattle.std.proofs.Common.{◌∙◌, ⊎_elim}
use native.Mathlib.Omega.{arith}
use Rattle.std.proofs.lemmas.Bool.{false≢true, eqb-true, eq-eqb, ne_eqb, ltb-true, and_parts, or_cases, or_parts, or_left, or_right, not-true, false_from_ne_true}
use Rattle.std.specs.List.{list_any, list_all}
use Rattle.quorum.specs.Sets.{member, rest, part, in_crew, whole, in_some}
use Rattle.quorum.specs.Rules.{Lawful}
use Rattle.quorum.specs.Listing.{listed, listed_rule, held}
use Rattle.quorum.specs.Truth.{clash, false_since, any_found, any_weaker, none_pass}
use Rattle.quorum.specs.Members.{member_none, member_lt, member_or, member_ext, member_rest, rest_below, part_found, part_from}

-- a set with every board of the crew is the whole crew
pub whole_from : (n s : ℕ) → ((i : ℕ) → i < n → member i s ≡ true) → whole n s ≡ true
whole_from n s f =
    eq-eqb _ _ (member_ext (rest n s) 0 (λ i. false_from_ne_true _ (λ m. let l = rest_below n s i m in clash (f i l) (not-true _ (sym (member_rest n s i l) ∙ m))) ∙ sym (member_none i)))

-- what is held with c listed sets is held with one more
held_more : (n : ℕ) (ms : List ℕ) (c a : ℕ) → held n ms c a ≡ true → held n ms (suc c) a ≡ true
unfolding held
held_more n ms zero a h = or_left (whole n a) _ h
held_more n ms (suc c) a h =
    ⊎_elim (λ e. or_left (whole n a) _ e)
    (λ e. or_right (whole n a) _ (any_weaker (λ m. held n ms c (bit_or a m)) (λ m. held n ms (suc c) (bit_or a m)) (λ m g. held_more n ms c (bit_or a m) g) ms e))
    (or_cases (whole n a) _ h)

-- ---- what is held, as the code asks it
module _ (n : ℕ) (ms : List ℕ) (a : ℕ) where
  pub held_whole : (c : ℕ) → rest n a ≡ 0 → true ≡ held n ms c a
  unfolding held
  held_whole zero e = sym (eq-eqb _ _ e)
  held_whole (suc c) e = sym (or_left (whole n a) _ (eq-eqb _ _ e))

  pub held_by_none : (c : ℕ) → c ≡ 0 → (rest n a ≢ 0) → false ≡ held n ms c a
  unfolding held
  held_by_none zero z ne = sym (ne_eqb _ _ ne)
  held_by_none (suc c) z ne = absurd (let k : suc c ≡ 0 = z in omega arith)

  pub held_by : (c : ℕ) → (c ≢ 0) → (rest n a ≢ 0) → list_any (λ m. held n ms (c - 1) (bit_or a m)) ms ≡ held n ms c a
  unfolding held
  held_by zero nz ne = absurd (nz refl)
  held_by (suc c) nz ne =
      let e : suc c - 1 ≡ c = omega arith in
      ap (λ (k : ℕ). list_any (λ m. held n ms k (bit_or a m)) ms) e ∙ sym (ap (λ (b : Bool). b || list_any (λ m. held n ms c (bit_or a m)) ms) (ne_eqb (rest n a) 0 ne))

-- sets of the family, with a set beside them, do not hold the crew where the listed sets do not
unheld : (n : ℕ) (ms ss : List ℕ) (a : ℕ) → held n ms (length ss) a ≡ false → list_all (listed ms) ss ≡ true
    → ((i : ℕ) → i < n → (member i a || in_some i ss) ≡ true) → ⊥
unfolding held
unheld n ms [] a h p f = clash (whole_from n a (λ i l. ⊎_elim (λ e. e) (λ e. absurd (false≢true e)) (or_cases (member i a) false (f i l)))) h
unheld n ms (s ∷ ss) a h p f =
    let k = and_parts (listed ms s) (list_all (listed ms) ss) p in
    ⊎_elim
    (λ e. unheld n ms ss a (false_since _ _ (held_more n ms (length ss) a) h) k.1
    (λ i l. ⊎_elim (λ m. or_left (member i a) _ m)
    (λ m. ⊎_elim (λ m'. clash m' (ap (member i) (eqb-true s 0 e) ∙ member_none i)) (λ m'. or_right (member i a) _ m') (or_cases (member i s) (in_some i ss) m))
    (or_cases (member i a) _ (f i l))))
    (λ e.
    let j = any_found (part s) (λ m. not (held n ms (length ss) (bit_or a m))) ms e (none_pass (λ m. held n ms (length ss) (bit_or a m)) ms (or_parts (whole n a) _ h).1) in
    unheld n ms ss (bit_or a j.0) (not-true _ j.2) k.1
    (λ i l. rw (member_or i a j.0)
    (⊎_elim (λ m. or_left (member i a || member i j.0) _ (or_left (member i a) _ m))
    (λ m. ⊎_elim (λ m'. or_left (member i a || member i j.0) _ (or_right (member i a) _ (part_found s j.0 j.1 i m'))) (λ m'. or_right (member i a || member i j.0) _ m')
    (or_cases (member i s) (in_some i ss) m))
    (or_cases (member i a) _ (f i l)))))
    (or_cases (s == 0) (list_any (part s) ms) k.0)

pub listed_lawful : (n c : ℕ) (ms : List ℕ) → list_all (in_crew n) ms ≡ true → held n ms c 0 ≡ false → Lawful (listed_rule n c ms)
listed_lawful n c ms small spare = record {
  nobody_fails = refl;
  parts_fail = λ s t w h. ⊎_elim
      (λ e. or_left (s == 0) _ (eq-eqb s 0 (member_ext s 0 (λ i. false_from_ne_true _ (λ m. clash (w i m) (ap (member i) (eqb-true t 0 e) ∙ member_none i)) ∙ sym (member_none i)))))
      (λ e. or_right (s == 0) _ (any_weaker (part t) (part s) (λ m g. part_from s m (λ i q. part_found t m g i (w i q))) ms e))
      (or_cases (t == 0) (list_any (part t) ms) h);
  inside_crew = λ s i h m. ⊎_elim
      (λ e. clash m (ap (member i) (eqb-true s 0 e) ∙ member_none i))
      (λ e. let k = any_found (part s) (in_crew n) ms e small in member_lt n k.0 i (ltb-true k.0 (2 ^ n) k.2) (part_found s k.0 k.1 i m))
      (or_cases (s == 0) (list_any (part s) ms) h);
  never_all = λ ss len h all. unheld n ms ss 0 (ap (λ (k : ℕ). held n ms k 0) len ∙ spare) h (λ i l. or_right (member i 0) _ (all i l));
}
