-- The parts of a line and the field at its front, told byte by byte. Assumes nothing.
use Rattle.std.proofs.Common.{◌≡◌, ℕ, ◌+◌, Bool, true, false, not, cond, eqb, List, [], ◌∷◌, length, nat_lt, take, drop, Some, None, Option, sym, refl, ap, ◌∙◌, suc, arith}
use Rattle.std.proofs.lemmas.Grind.{common_steps}
use Rattle.std.specs.List.{onto_first, position_or_len}
use Rattle.std.proofs.Math.Nat.{add_comm}
use Rattle.std.proofs.Math.Numerals.{suc-eq-add-one}
use Rattle.numerals.specs.Numerals.{comma, and_then, number_in, each_number, parts, numbers_in}
use Rattle.numerals.specs.Parts.{field_in}

-- the bytes before the first comma, or all where there is none
abbrev pub before_comma : List ℕ → List ℕ
before_comma [] = []
before_comma (b ∷ bs) = cond (eqb b comma) [] (b ∷ before_comma bs)

-- the bytes after the first comma, where there is one
abbrev pub after_comma : List ℕ → Option (List ℕ)
after_comma [] = None
after_comma (b ∷ bs) = cond (eqb b comma) (Some bs) (after_comma bs)

-- the parts between commas, but for the first part
abbrev pub further_parts : List ℕ → List (List ℕ)
further_parts [] = []
further_parts (b ∷ bs) = cond (eqb b comma) (before_comma bs ∷ further_parts bs) (further_parts bs)

abbrev joined : Bool → ℕ → List ℕ → List (List ℕ) → List (List ℕ)
joined t b first rest = cond t [] (b ∷ first) ∷ cond t (first ∷ rest) rest

parts_at : (b : ℕ) (bs : List ℕ) → parts bs ≡ before_comma bs ∷ further_parts bs → (t : Bool) → cond t ([] ∷ parts bs) (onto_first b (parts bs)) ≡ joined t b (before_comma bs) (further_parts bs)
parts_at b bs ih true = ap (λ (ps : List (List ℕ)). [] ∷ ps) ih
parts_at b bs ih false = ap (onto_first b) ih

pub parts_by_commas : (bs : List ℕ) → parts bs ≡ before_comma bs ∷ further_parts bs
parts_by_commas [] = refl
parts_by_commas (b ∷ bs) = parts_at b bs (parts_by_commas bs) (eqb b comma)

pub numbers_by_commas : (bs : List ℕ) → numbers_in bs ≡ each_number (before_comma bs ∷ further_parts bs)
unfolding numbers_in
numbers_by_commas bs = ap each_number (parts_by_commas bs)

-- how many bytes stand before the first comma
abbrev until : List ℕ → ℕ
until bs = position_or_len (λ b. eqb b comma) bs

one_more : (n : ℕ) → 1 + n ≡ suc n
one_more n = add_comm 1 n ∙ sym (suc-eq-add-one n)

before_at : (b : ℕ) (bs : List ℕ) → take (until bs) bs ≡ before_comma bs → (t : Bool) → take (cond (not t) (1 + until bs) 0) (b ∷ bs) ≡ cond t [] (b ∷ before_comma bs)
before_at b bs ih true = refl
before_at b bs ih false = ap (λ (k : ℕ). take k (b ∷ bs)) (one_more (until bs)) ∙ ap (λ (xs : List ℕ). b ∷ xs) ih

before_is : (bs : List ℕ) → take (until bs) bs ≡ before_comma bs
before_is [] = refl
before_is (b ∷ bs) = before_at b bs (before_is bs) (eqb b comma)

abbrev behind : ℕ → List ℕ → Option (List ℕ)
behind n bs = cond (nat_lt n (length bs)) (Some (drop (suc n) bs)) None

lt_more : (n m : ℕ) → nat_lt (suc n) (suc m) ≡ nat_lt n m
lt_more n m = grind (arith, common_steps)

none_before : (m : ℕ) → nat_lt 0 (suc m) ≡ true
none_before m = grind (arith, common_steps)

after_at : (b : ℕ) (bs : List ℕ) → behind (until bs) bs ≡ after_comma bs → (t : Bool) → behind (cond (not t) (1 + until bs) 0) (b ∷ bs) ≡ cond t (Some bs) (after_comma bs)
after_at b bs ih true = ap (λ (t : Bool). cond t (Some bs) None) (none_before (length bs))
after_at b bs ih false =
    ap (λ (k : ℕ). behind k (b ∷ bs)) (one_more (until bs)) ∙ ap (λ (t : Bool). cond t (Some (drop (suc (until bs)) bs)) None) (lt_more (until bs) (length bs)) ∙ ih

after_is : (bs : List ℕ) → behind (until bs) bs ≡ after_comma bs
after_is [] = refl
after_is (b ∷ bs) = after_at b bs (after_is bs) (eqb b comma)

-- the field, where its number and the bytes behind it are told apart
abbrev told : List ℕ → Option (List ℕ) → Option (ℕ × List ℕ)
told first rest = and_then rest (λ r. and_then (number_in first) (λ v. Some (v, r)))

by_place : (bs : List ℕ) (n : ℕ) (t : Bool)
    → and_then (cond t (Some n) None) (λ i. and_then (number_in (take i bs)) (λ v. Some (v, drop (i + 1) bs))) ≡ told (take n bs) (cond t (Some (drop (suc n) bs)) None)
by_place bs n true = ap (λ (k : ℕ). told (take n bs) (Some (drop k bs))) (sym (suc-eq-add-one n))
by_place bs n false = refl

pub field_by_comma : (bs : List ℕ) → field_in bs ≡ and_then (after_comma bs) (λ rest. and_then (number_in (before_comma bs)) (λ v. Some (v, rest)))
field_by_comma bs =
    by_place bs (until bs) (nat_lt (until bs) (length bs))
    ∙ ap (λ (xs : List ℕ). told xs (behind (until bs) bs)) (before_is bs)
    ∙ ap (told (before_comma bs)) (after_is bs)
