-- The longest run of digits: one step of a loop over it, and where the loop stops. Assumes nothing.
use Rattle.std.proofs.Common.{◌≡◌, ℕ, zero, suc, ◌+◌, ◌-◌, ◌*◌, ◌<◌, ◌≤◌, List, [], ◌∷◌, length, get_or, take, drop, fold, leb, ltb, true, false, Some, None, Bool, cond, sym, ap, ap₂, ◌∙◌, take-take, not-suc-le-zero, le_of_suc-le-suc, arith}
use Rattle.std.proofs.lemmas.Bool.{and_parts, cond-true, cond-false, leb-true, lt-ltb, le-ltb, ltb-false}
use Rattle.std.proofs.lemmas.List.Sums.{fold_more, prefix_len-drop_yes}
use Rattle.wire.specs.Fields.{is_digit, run, value_of, number, within_16_bits, digits}
use Rattle.wire.proofs.Outcomes.{not_held}

-- digits more make a number no smaller
value_grows : (n : ℕ) (ds : List ℕ) → n ≤ fold (λ a d. a * 10 + (d - 48)) n ds
value_grows n [] = omega arith
value_grows n (d ∷ ds) = omega (arith, value_grows (n * 10 + (d - 48)) ds)

value_le : (i n : ℕ) (ds : List ℕ) → fold (λ a d. a * 10 + (d - 48)) n (take i ds) ≤ fold (λ a d. a * 10 + (d - 48)) n ds
value_le zero n ds = value_grows n ds
value_le (suc i) n [] = omega arith
value_le (suc i) n (d ∷ ds) = value_le i (n * 10 + (d - 48)) ds

-- after i digits: v is the number so far, and i of the run's bytes are passed
module _ (xs : List ℕ) (i v : ℕ) (so : v ≡ value_of (take i xs)) (left : i + run (drop i xs) ≡ run xs) where
  pub goes : i < length xs → is_digit (get_or xs i 0) ≡ true → (v * 10 + (get_or xs i 0 - 48) ≡ value_of (take (i + 1) xs)) × (i + 1 + run (drop (i + 1) xs) ≡ run xs)
  goes h e = (
    omega (arith, fold_more (λ a d. a * 10 + (d - 48)) 0 xs i 0 h),
    omega (arith, prefix_len-drop_yes is_digit xs i 0 h e),
  )

  pub beyond : i < length xs → is_digit (get_or xs i 0) ≡ true → within_16_bits (v * 10 + (get_or xs i 0 - 48)) (v * 10 + (get_or xs i 0 - 48)) ≡ None → None ≡ digits xs
  beyond h e none =
      let next = v * 10 + (get_or xs i 0 - 48) in
      let large : 65536 ≤ next = ltb-false next 65536 (not_held (ltb next 65536) next none) in
      let g = goes h e in
      let more = value_le (i + 1) 0 (take (run xs) xs) in
      sym (cond-false (ltb (number xs) 65536) _ _ (le-ltb (number xs) 65536 (omega (arith, g.0, ap value_of (take-take (i + 1) (run xs) xs (omega (arith, g.1))), more))))

-- a digit at the front that no other follows
pub alone : (xs : List ℕ) → 2 ≤ length xs → is_digit (get_or xs 0 0) ≡ true → is_digit (get_or xs 1 0) ≡ false → Some (get_or xs 0 0 - 48, 1) ≡ digits xs
alone [] long one none = absurd (not-suc-le-zero long)
alone (a ∷ []) long one none = absurd (not-suc-le-zero (le_of_suc-le-suc long))
alone (a ∷ b ∷ xs) long one none =
    let high = (and_parts (leb 48 a) (leb a 57) one).1 in
    let small : a - 48 < 65536 = omega (arith, leb-true a 57 high) in
    let length_one : run (a ∷ b ∷ xs) ≡ 1 = ap (λ (t : Bool). cond t (1 + run (b ∷ xs)) 0) one ∙ ap (λ (t : Bool). 1 + cond t (1 + run xs) 0) none in
    let value : number (a ∷ b ∷ xs) ≡ a - 48 = ap (λ (k : ℕ). value_of (take k (a ∷ b ∷ xs))) length_one ∙ omega arith in
    sym (ap₂ (λ (n k : ℕ). within_16_bits n (n, k)) value length_one ∙ cond-true (ltb (a - 48) 65536) _ _ (lt-ltb (a - 48) 65536 small))
