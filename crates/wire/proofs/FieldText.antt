-- A field holds a number just where its bytes are the number in base ten. Assumes nothing.
use Rattle.std.proofs.Common.{◌≡◌, ℕ, suc, ◌+◌, ◌-◌, ◌*◌, ◌^◌, ◌<◌, ◌≤◌, true, false, eqb, leb, List, [], ◌∷◌, ◌++◌, length, get_or, take, drop, Ok, decimal, fold, sym, refl, ap, ◌∙◌, ap₂, ⊎_elim, one-add, arith, lit<, rules}
use Rattle.std.specs.Str.{all_ascii_digits}
use Rattle.std.proofs.lemmas.Fmt.{decimal_nonempty, decimal_digit, first_decimal, digits_decimal, digits_value-decimal, decimal-digits_value}
use Rattle.std.proofs.lemmas.Str.Parse.{IsNumeralModel, numerals_by_fold, tells_all_ascii_digits}
use Rattle.std.proofs.lemmas.List.{length-take-le, take_at, get_or-take, get_or_append_left, take-append-drop, drop-drop}
use Rattle.std.proofs.lemmas.Bool.{cond_both, and_cases, and_from, and_parts, and_left, and_right, cond-true, cond-false, cases_Bool, cases_eq, eqb-false, eq-eqb, ne_eqb, leb-true, le-leb, both_ways}
use Rattle.std.proofs.lemmas.List.Sums.{prefix_len-le-length}
use Rattle.wire.specs.Fields.{is_digit, run, value_of, number, zero_leads, is_within, field_at}
use Rattle.wire.proofs.Outcomes.{ok_unless, ok_when}

own : IsNumeralModel (λ ds. all_ascii_digits ds ≡ true) value_of
own = numerals_by_fold _ tells_all_ascii_digits (λ n ds. fold (λ a d. a * 10 + (d - 48)) n ds) (search rules)

-- digits, and then a byte that is none
run_digits : (ds rest : List ℕ) → all_ascii_digits ds ≡ true → is_digit (get_or rest 0 0) ≡ false → run (ds ++ rest) ≡ length ds
run_digits [] [] all stop = refl
run_digits [] (b ∷ rest) all stop = cond-false (is_digit b) _ _ stop
run_digits (d ∷ ds) rest all stop =
    let p = and_parts (is_digit d) (all_ascii_digits ds) all in
    cond-true (is_digit d) _ _ p.0 ∙ one-add (run (ds ++ rest)) ∙ ap suc (run_digits ds rest p.1 stop)

digits_of_run : (xs : List ℕ) → all_ascii_digits (take (run xs) xs) ≡ true
digits_of_run [] = refl
digits_of_run (x ∷ xs) =
    ⊎_elim
    (λ y. ap (λ k. all_ascii_digits (take k (x ∷ xs))) (cond-true (is_digit x) _ _ y ∙ one-add (run xs)) ∙ and_from (is_digit x) (all_ascii_digits (take (run xs) xs)) y (digits_of_run xs))
    (λ n. ap (λ k. all_ascii_digits (take k (x ∷ xs))) (cond-false (is_digit x) _ _ n))
    (cases_Bool (is_digit x))

second_of_run : (xs : List ℕ) → is_digit (get_or xs 1 0) ≡ false → run xs ≤ 1
second_of_run [] e = omega arith
second_of_run (x ∷ xs) e =
    let none : run xs ≡ 0 = run_digits [] xs refl e in
    cond_both (is_digit x) (1 + run xs) 0 (λ k. k ≤ 1) (λ _. omega arith) (λ _. omega arith)

-- a number in base ten does not begin with a zero that another digit follows
plain_decimal : (n : ℕ) (rest : List ℕ) → n < 2 ^ 64 → is_digit (get_or rest 0 0) ≡ false → zero_leads (decimal n ++ rest) ≡ false
plain_decimal n rest h stop = ⊎_elim
    (λ z. and_right (eqb (get_or (decimal n ++ rest) 0 0) 48) (is_digit (get_or (decimal n ++ rest) 1 0))
    (ap (λ ds. is_digit (get_or (ds ++ rest) 1 0)) (ap decimal z ∙ decimal_digit 0 (lit< tt)) ∙ stop))
    (λ nz. and_left (eqb (get_or (decimal n ++ rest) 0 0) 48) (is_digit (get_or (decimal n ++ rest) 1 0))
    (ne_eqb (get_or (decimal n ++ rest) 0 0) 48
    (λ e. omega (arith, first_decimal n (omega arith) h, get_or_append_left (decimal n) rest 0 0 (decimal_nonempty n h)))))
    (cases_eq n 0)

module _ (xs : List ℕ) (p n low high : ℕ) where
  pub field_reads : (rest : List ℕ) → drop p xs ≡ decimal n ++ rest → is_digit (get_or rest 0 0) ≡ false → n < 2 ^ 64 → low ≤ n → n ≤ high → field_at xs p low high ≡ Ok (n, p + length (decimal n))
  unfolding field_at
  field_reads rest at stop h l u =
      let long : run (drop p xs) ≡ length (decimal n) = ap run at ∙ run_digits (decimal n) rest (digits_decimal own n h) stop in
      let said : number (drop p xs) ≡ n =
      ap₂ (λ k s. value_of (take k s)) long at ∙ ap value_of (take_at (decimal n) rest (length (decimal n)) refl) ∙ digits_value-decimal own n h in
      let some = decimal_nonempty n h in
      cond-false (eqb (run (drop p xs)) 0) _ _ (ne_eqb (run (drop p xs)) 0 (λ e. omega arith))
      ∙ cond-false (zero_leads (drop p xs)) _ _ (ap zero_leads at ∙ plain_decimal n rest h stop)
      ∙ cond-true (is_within low high (number (drop p xs))) _ _
      (ap (is_within low high) said ∙ and_from (leb low n) (leb n high) (le-leb low n l) (le-leb n high u))
      ∙ ap₂ (λ x y. Ok (x, p + y)) said long

  -- an accepted field is the number in base ten
  pub field_is : (e : ℕ) → high < 2 ^ 64 → field_at xs p low high ≡ Ok (n, e) → (drop p xs ≡ decimal n ++ drop e xs) × (e ≡ p + length (decimal n)) × (low ≤ n) × (n ≤ high)
  unfolding field_at
  field_is e fits so =
      let r = drop p xs in
      let a = ok_unless (eqb (run r) 0) _ _ _ so in
      let b = ok_unless (zero_leads r) _ _ _ a.1 in
      let c = ok_when (is_within low high (number r)) _ (number r, p + run r) (n, e) b.1 in
      let said : number r ≡ n = ap (λ x. x.0) c.1 in
      let ends : p + run r ≡ e = ap (λ x. x.1) c.1 in
      let some : 0 < run r = omega (arith, eqb-false (run r) 0 a.0) in
      let l : low ≤ number r = leb-true low (number r) (and_parts (leb low (number r)) (leb (number r) high) c.0).0 in
      let u : number r ≤ high = leb-true (number r) high (and_parts (leb low (number r)) (leb (number r) high) c.0).1 in
      let ds = take (run r) r in
      let long : length ds ≡ run r = length-take-le (run r) r (prefix_len-le-length is_digit r) in
      let first : get_or ds 0 0 ≡ 48 → length ds ≡ 1 = λ z.
      let zero_first : eqb (get_or r 0 0) 48 ≡ true = eq-eqb (get_or r 0 0) 48 (sym (get_or-take (run r) r 0 0 some) ∙ z) in
      ⊎_elim (λ f. let q = both_ways (eqb (get_or r 0 0) 48) f zero_first in absurd q) (λ f. omega (arith, second_of_run r f)) (and_cases (eqb (get_or r 0 0) 48) (is_digit (get_or r 1 0)) b.0) in
      let text : decimal n ≡ ds = ap decimal (sym said) ∙ decimal-digits_value own ds (digits_of_run r) (omega arith) first (omega arith) in (
        sym (take-append-drop (run r) r) ∙ ap₂ ◌++◌ (sym text) (drop-drop (run r) p xs ∙ ap (λ k. drop k xs) ends),
        sym ends ∙ ap (λ k. p + k) (sym long ∙ ap length (sym text)),
        omega arith,
        omega arith,
      )
