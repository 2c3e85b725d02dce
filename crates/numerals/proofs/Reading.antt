-- A number is read byte by byte, and numbers part by part. Assumes nothing.
use Rattle.std.proofs.Common.{◌≡◌, ℕ, ◌+◌, ◌*◌, ◌<◌, ◌≤◌, List, [], ◌∷◌, ◌++◌, length, ◌⊎◌, inl, inr, get_or, drop, Some, None, Option, sym, ap, ◌∙◌, refl, append_assoc, append-nil, arith}
use Rattle.std.proofs.lemmas.Grind.{common_steps}
use Rattle.std.proofs.lemmas.List.{at_drop_more, at_drop_all}
use Rattle.numerals.specs.Numerals.{and_then, with_digit, number_on, number_in, each_number, parts, numbers_in, max_number}

no_digit : (v b : ℕ) → (v ≡ 0) ⊎ (max_number < v * 10) → with_digit (Some v) b ≡ None
no_digit v b (inl h) = grind (arith, common_steps)
no_digit v b (inr h) = grind (arith, common_steps)

-- nothing is read behind a leading zero
pub none_after_zero : (bs : List ℕ) (v : ℕ) → 0 < length bs → v ≡ 0 → None ≡ number_on (Some v) bs
none_after_zero [] v l z = absurd (omega arith)
none_after_zero (b ∷ bs) v l z = ap (λ (o : Option ℕ). and_then o (λ w. number_on (Some w) bs)) (sym (no_digit v b (inl z)))

-- nor behind a number that is too large for one digit more
pub none_behind : (bs : List ℕ) (i v : ℕ) → i < length bs → max_number < v * 10 → None ≡ number_on (Some v) (drop i bs)
none_behind bs i v l h =
    sym (at_drop_more (number_on (Some v)) bs i 0 l ∙ ap (λ (o : Option ℕ). and_then o (λ w. number_on (Some w) (drop (i + 1) bs))) (no_digit v (get_or bs i 0) (inr h)))

-- the numbers of the parts that are left, after those of the parts before
abbrev pub after : List ℕ → List (List ℕ) → Option (List ℕ)
after vs ps = and_then (each_number ps) (λ ws. Some (vs ++ ws))

one_more : (vs : List ℕ) (o : Option ℕ) (later : Option (List ℕ))
    → and_then (and_then o (λ w. and_then later (λ ws. Some (w ∷ ws)))) (λ ws. Some (vs ++ ws)) ≡ and_then o (λ w. and_then later (λ ws. Some ((vs ++ w ∷ []) ++ ws)))
one_more vs None later = refl
one_more vs (Some w) None = refl
one_more vs (Some w) (Some ws) = ap {B = Option (List ℕ)} Some (sym (append_assoc vs (w ∷ []) ws))

pub none_read : (bs : List ℕ) → after [] (parts bs) ≡ numbers_in bs
unfolding numbers_in
none_read bs = whole (each_number (parts bs))
  where
    whole : (o : Option (List ℕ)) → and_then o (λ ws. Some ws) ≡ o
    whole None = refl
    whole (Some ws) = refl

-- of the parts, as many as i are read, and have the numbers vs
module _ (bs : List ℕ) (i : ℕ) (vs : List ℕ) (so_far : after vs (drop i (parts bs)) ≡ numbers_in bs) where
  pub part_read : (p : List ℕ) → (i < length (parts bs)) × (p ≡ get_or (parts bs) i p) → (o : Option ℕ) → o ≡ number_in p
      → and_then o (λ w. after (vs ++ w ∷ []) (drop (i + 1) (parts bs))) ≡ numbers_in bs
  part_read p at o e =
      ap (λ (o : Option ℕ). and_then o (λ w. after (vs ++ w ∷ []) (drop (i + 1) (parts bs)))) (e ∙ ap number_in at.1)
      ∙ sym (one_more vs (number_in (get_or (parts bs) i p)) (each_number (drop (i + 1) (parts bs))))
      ∙ sym (at_drop_more (after vs) (parts bs) i p at.0) ∙ so_far

  pub all_read : length (parts bs) ≤ i → Some vs ≡ numbers_in bs
  all_read l = ap {B = Option (List ℕ)} Some (sym (append-nil vs)) ∙ sym (at_drop_all (after vs) (parts bs) i l) ∙ so_far
