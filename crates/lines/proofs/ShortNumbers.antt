-- Four numbers of one digit each, with commas between: seven bytes. Assumes nothing.
use Rattle.std.proofs.Common.{◌≡◌, ℕ, ◌-◌, ◌≤◌, true, List, [], ◌∷◌, length, get_or, Some, Option, refl, ap, ◌∙◌}
use Rattle.std.proofs.lemmas.Bool.{le-leb, and_from}
use Rattle.std.proofs.lemmas.Slice.Eq.{text_from_reads}
use Rattle.numerals.specs.Numerals.{comma, zero_digit, nine_digit, and_then, digit, number_in, numbers_in}
use Rattle.lines.proofs.Fields.{one_read, first_read}

digit_read : (b : ℕ) → 48 ≤ b → b ≤ 57 → number_in (b ∷ []) ≡ Some (b - zero_digit)
digit_read b l h =
    let is : digit b ≡ true = and_from _ _ (le-leb zero_digit b l) (le-leb b nine_digit h) in
    rw is refl

module _ (xs : List ℕ) where
  abbrev pub digit_at : ℕ → ℕ
  digit_at i = get_or xs i 0 - zero_digit

  pub four_digits_read :
      length xs ≡ 7
      → 48 ≤ get_or xs 0 0 → get_or xs 0 0 ≤ 57 → get_or xs 1 0 ≡ comma
      → 48 ≤ get_or xs 2 0 → get_or xs 2 0 ≤ 57 → get_or xs 3 0 ≡ comma
      → 48 ≤ get_or xs 4 0 → get_or xs 4 0 ≤ 57 → get_or xs 5 0 ≡ comma
      → 48 ≤ get_or xs 6 0 → get_or xs 6 0 ≤ 57
      → numbers_in xs ≡ Some (digit_at 0 ∷ digit_at 2 ∷ digit_at 4 ∷ digit_at 6 ∷ [])
  four_digits_read long t0 t1 a f0 f1 b k0 k1 d v0 v1 =
      let at : ℕ → ℕ = λ i. get_or xs i 0 in
      let text : xs ≡ at 0 ∷ comma ∷ at 2 ∷ comma ∷ at 4 ∷ comma ∷ at 6 ∷ [] = text_from_reads xs _ long (refl, (a, (refl, (b, (refl, (d, (refl, tt))))))) in
      ap numbers_in text
      ∙ first_read (at 0 ∷ []) (at 2 ∷ comma ∷ at 4 ∷ comma ∷ at 6 ∷ []) _ (digit_read (at 0) t0 t1)
      ∙ ap (λ (o : Option (List ℕ)). and_then o (λ vs. Some (digit_at 0 ∷ vs))) (first_read (at 2 ∷ []) (at 4 ∷ comma ∷ at 6 ∷ []) _ (digit_read (at 2) f0 f1)
      ∙ ap (λ (o : Option (List ℕ)). and_then o (λ vs. Some (digit_at 2 ∷ vs))) (first_read (at 4 ∷ []) (at 6 ∷ []) _ (digit_read (at 4) k0 k1)
      ∙ ap (λ (o : Option (List ℕ)). and_then o (λ vs. Some (digit_at 4 ∷ vs))) (one_read (at 6 ∷ []) _ (digit_read (at 6) v0 v1))))
