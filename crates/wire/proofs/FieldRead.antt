-- What a field is, from the number and the length of its run of digits. Assumes nothing.
use Rattle.std.proofs.Common.{◌≡◌, ℕ, ◌+◌, ◌-◌, ◌<◌, ◌≤◌, true, false, cond, eqb, leb, ltb, List, [], ◌∷◌, length, take, drop, Some, None, Ok, Err, Option, sym, ap, ◌∙◌, arith}
use Rattle.std.proofs.lemmas.List.{take_rest}
use Rattle.std.proofs.lemmas.Bool.{cond-true, cond-false, eq-eqb, eqb-true, ne_eqb, lt-leb, ltb-false, and_parts, and_right}
use Rattle.std.proofs.lemmas.Option.{cond_some}
use Rattle.wire.specs.Faults.{fault}
use Rattle.wire.proofs.Outcomes.{not_held}
use Rattle.wire.specs.Fields.{is_digit, run, value_of, number, digits, zero_leads, is_within, field_at}

-- the reader's rest of the bytes, `&bytes[p..]`
abbrev pub rest : List ℕ → ℕ → List ℕ
rest xs p = take (length xs - p) (drop p xs)

run_of_zero : (xs : List ℕ) → zero_leads xs ≡ true → run xs ≡ 0 → ⊥
run_of_zero [] e none = cc
run_of_zero (x ∷ xs) e none =
    let zero_is : x ≡ 48 = eqb-true x 48 (and_parts (eqb x 48) _ e).0 in
    omega (arith, cond-true (is_digit x) (1 + run xs) 0 (ap is_digit zero_is))

module _ (xs : List ℕ) (p low high : ℕ) where
  pub field_zero : zero_leads (rest xs p) ≡ true → Err (fault 12 p) ≡ field_at xs p low high
  unfolding field_at
  field_zero z =
      let zero_is : zero_leads (drop p xs) ≡ true = ap zero_leads (sym (take_rest xs p)) ∙ z in
      sym (cond-false (eqb (run (drop p xs)) 0) _ _ (ne_eqb (run (drop p xs)) 0 (run_of_zero (drop p xs) zero_is)) ∙ cond-true (zero_leads (drop p xs)) _ _ zero_is)

  module _ (o : Option (ℕ × ℕ)) (is : o ≡ digits (rest xs p)) where
    said : o ≡ digits (drop p xs)
    said = is ∙ ap digits (take_rest xs p)

    module _ (n len : ℕ) (some : o ≡ Some (n, len)) where
      parts : ◌≡◌ {A = ℕ × ℕ} (number (drop p xs), run (drop p xs)) (n, len)
      parts = (cond_some (ltb (number (drop p xs)) 65536) (number (drop p xs), run (drop p xs)) (n, len) (sym said ∙ some)).1

      long : run (drop p xs) ≡ len
      long = ap (λ x. x.1) parts

      pub field_none : len ≡ 0 → Err (fault 11 p) ≡ field_at xs p low high
      unfolding field_at
      field_none z = sym (cond-true (eqb (run (drop p xs)) 0) _ _ (eq-eqb (run (drop p xs)) 0 (long ∙ z)))

    module _ (plain : zero_leads (rest xs p) ≡ false) where
      by_range : (run (drop p xs) ≡ 0 → ⊥) → field_at xs p low high ≡ cond (is_within low high (number (drop p xs))) (Ok (number (drop p xs), p + run (drop p xs))) (Err (fault 13 p))
      unfolding field_at
      by_range some =
          cond-false (eqb (run (drop p xs)) 0) _ _ (ne_eqb (run (drop p xs)) 0 some)
          ∙ cond-false (zero_leads (drop p xs)) _ _ (ap zero_leads (sym (take_rest xs p)) ∙ plain)

      -- a number that 16 bits don't hold is beyond every range
      pub field_beyond : high < 65536 → o ≡ None → Err (fault 13 p) ≡ field_at xs p low high
      field_beyond fits none =
          let m = number (drop p xs) in
          let large : 65536 ≤ m = ltb-false m 65536 (not_held (ltb m 65536) (m, run (drop p xs)) (sym said ∙ none)) in
          let some : run (drop p xs) ≡ 0 → ⊥ = λ z. omega (arith, ap (λ k. value_of (take k (drop p xs))) z) in
          sym (by_range some ∙ cond-false (is_within low high m) _ _ (and_right (leb low m) (leb m high) (lt-leb m high (omega arith))))

      module _ (n len : ℕ) (some : o ≡ Some (n, len)) (digit : len ≡ 0 → ⊥) where
        in_range : field_at xs p low high ≡ cond (is_within low high n) (Ok (n, p + len)) (Err (fault 13 p))
        in_range =
            by_range (λ z. digit (sym (long n len some) ∙ z))
            ∙ ap (λ x. cond (is_within low high x.0) (Ok (x.0, p + x.1)) (Err (fault 13 p))) (parts n len some)

        pub field_out : is_within low high n ≡ false → Err (fault 13 p) ≡ field_at xs p low high
        field_out out = sym (in_range ∙ cond-false (is_within low high n) _ _ out)

        pub field_good : is_within low high n ≡ true → Ok (n, p + len) ≡ field_at xs p low high
        field_good inside = sym (in_range ∙ cond-true (is_within low high n) _ _ inside)
