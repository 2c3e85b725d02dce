-- What a call makes of the numbers, where a number and a comma lead them, and where none do. Assumes nothing.
use Rattle.std.proofs.Common.{◌≡◌, ℕ, ◌≤◌, eqb, List, [], ◌∷◌, length, Some, None, Option, sym, refl, ap, ◌∙◌, arith}
use Rattle.std.specs.List.{join_with_byte}
use Rattle.std.proofs.lemmas.Bool.{ne_eqb, cond-false}
use Rattle.std.proofs.lemmas.List.Splits.{join_with_byte-slice_split}
use Rattle.numerals.specs.Numerals.{comma, and_then, number_in, each_number, parts, numbers_in}
use Rattle.lines.specs.Calls.{Call, unreadable}
use Rattle.lines.specs.Lines.{readable, start_with, carry_with}
use Rattle.numerals.specs.Parts.{field_in}
pub use Rattle.numerals.proofs.Fields.{one_read, first_read, field_at}
use Rattle.numerals.proofs.Fields.{field_leads, last_read}

-- what is made of the numbers is made of the first and those behind its comma
pub field_first : (bs : List ℕ) (f : ℕ × List ℕ) (call : List ℕ → Call) → Some f ≡ field_in bs → readable (numbers_in f.1) (λ vs. call (f.0 ∷ vs)) ≡ readable (numbers_in bs) call
field_first bs f call e = moved (numbers_in f.1) ∙ ap (λ (o : Option (List ℕ)). readable o call) (field_leads bs f e)
  where
    moved : (o : Option (List ℕ)) → readable o (λ vs. call (f.0 ∷ vs)) ≡ readable (and_then o (λ vs. Some (f.0 ∷ vs))) call
    moved None = refl
    moved (Some vs) = refl

-- ---- none
-- what is made of one number alone is not made of what writes none
module _ (call : List ℕ → Call) (others : (vs : List ℕ) → (length vs ≡ 1 → ⊥) → unreadable ≡ call vs) (bs : List ℕ) (none : number_in bs ≡ None) where
  of_parts : (ps : List (List ℕ)) → join_with_byte comma ps ≡ bs → unreadable ≡ readable (each_number ps) call
  of_parts [] j = others [] (λ e. omega arith)
  of_parts (p ∷ []) j = ap (λ (o : Option ℕ). readable (and_then o (λ v. Some (v ∷ []))) call) (sym (ap number_in j ∙ none))
  of_parts (p ∷ q ∷ ps) j = of_two (number_in p) (number_in q) (each_number ps)
    where
      of_two : (a b : Option ℕ) (o : Option (List ℕ)) → unreadable ≡ readable (and_then a (λ v. and_then (and_then b (λ w. and_then o (λ ws. Some (w ∷ ws)))) (λ vs. Some (v ∷ vs)))) call
      of_two None b o = refl
      of_two (Some v) None o = refl
      of_two (Some v) (Some w) None = refl
      of_two (Some v) (Some w) (Some ws) = others (v ∷ w ∷ ws) (λ e. omega arith)

  pub none_single : unreadable ≡ readable (numbers_in bs) call
  unfolding numbers_in
  none_single = of_parts (parts bs) (join_with_byte-slice_split comma bs)

-- what is made of two numbers or more is not made of what no number and comma lead
module _ (call : List ℕ → Call) (others : (vs : List ℕ) → length vs ≤ 1 → unreadable ≡ call vs) (bs : List ℕ) (none : None ≡ field_in bs) where
  of_last : (o : Option ℕ) → unreadable ≡ readable (and_then o (λ v. Some (v ∷ []))) call
  of_last None = refl
  of_last (Some v) = others (v ∷ []) (omega arith)

  pub none_led : unreadable ≡ readable (numbers_in bs) call
  none_led = of_last (number_in bs) ∙ ap (λ (o : Option (List ℕ)). readable o call) (last_read bs none (number_in bs) refl)

-- ---- how many numbers a call has
pub not_one : (vs : List ℕ) → (length vs ≡ 1 → ⊥) → unreadable ≡ start_with vs
not_one vs h = sym (cond-false (eqb (length vs) 1) _ unreadable (ne_eqb _ _ h))

pub not_four : (vs : List ℕ) → (length vs ≡ 4 → ⊥) → unreadable ≡ carry_with vs
not_four vs h = sym (cond-false (eqb (length vs) 4) _ unreadable (ne_eqb _ _ h))
