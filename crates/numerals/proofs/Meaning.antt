-- The numbers that the parts write are those that a reading byte by byte gives. Assumes nothing.
use Rattle.std.proofs.Common.{◌≡◌, ℕ, ◌<◌, Bool, true, false, cond, eqb, List, [], ◌∷◌, ◌++◌, length, Some, None, Option, sym, refl, ap, ◌∙◌, append_assoc, arith}
use Rattle.std.specs.List.{onto_first}
use Rattle.std.proofs.lemmas.List.Splits.{length-slice_split}
use Rattle.numerals.specs.Numerals.{comma, and_then, with_digit, number_on, each_number, parts, numbers_in}

-- the numbers that the bytes write, after those read before and what was read of the next
abbrev pub numbers_on : List ℕ → Option ℕ → List ℕ → Option (List ℕ)
numbers_on vs v [] = and_then v (λ w. Some (vs ++ w ∷ []))
numbers_on vs v (b ∷ bs) =
    cond (eqb b comma) (and_then v (λ w. numbers_on (vs ++ w ∷ []) None bs)) (and_then (with_digit v b) (λ w. numbers_on vs (Some w) bs))

-- the numbers of parts, where v was read of the first
abbrev each_after : Option ℕ → List (List ℕ) → Option (List ℕ)
each_after v [] = and_then v (λ w. Some (w ∷ []))
each_after v (p ∷ ps) = and_then (number_on v p) (λ w. and_then (each_number ps) (λ ws. Some (w ∷ ws)))

abbrev behind : List ℕ → Option (List ℕ) → Option (List ℕ)
behind vs o = and_then o (λ ws. Some (vs ++ ws))

each_begun : (ps : List (List ℕ)) → 0 < length ps → each_after None ps ≡ each_number ps
each_begun [] l = absurd (omega arith)
each_begun (p ∷ ps) l = refl

each_onto : (v : Option ℕ) (b : ℕ) (ps : List (List ℕ)) → each_after v (onto_first b ps) ≡ and_then (with_digit v b) (λ w. each_after (Some w) ps)
each_onto v b [] = over (with_digit v b)
  where
    over : (o : Option ℕ) → and_then (and_then o (λ w. Some w)) (λ w. Some (w ∷ [])) ≡ and_then o (λ w. Some (w ∷ []))
    over None = refl
    over (Some w) = refl
each_onto v b (p ∷ ps) = over (with_digit v b)
  where
    over : (o : Option ℕ) → and_then (and_then o (λ w. number_on (Some w) p)) (λ w. and_then (each_number ps) (λ ws. Some (w ∷ ws)))
        ≡ and_then o (λ u. and_then (number_on (Some u) p) (λ w. and_then (each_number ps) (λ ws. Some (w ∷ ws))))
    over None = refl
    over (Some w) = refl

-- the two readings of the bytes behind a first one
abbrev Same : List ℕ → Type 0
Same bs = (vs : List ℕ) (v : Option ℕ) → numbers_on vs v bs ≡ behind vs (each_after v (parts bs))

at_comma : (bs : List ℕ) → Same bs → (vs : List ℕ) (v : Option ℕ)
    → and_then v (λ w. numbers_on (vs ++ w ∷ []) None bs) ≡ behind vs (and_then v (λ w. and_then (each_number (parts bs)) (λ ws. Some (w ∷ ws))))
at_comma bs ih vs None = refl
at_comma bs ih vs (Some w) =
    ih (vs ++ w ∷ []) None ∙ ap (behind (vs ++ w ∷ [])) (each_begun (parts bs) (omega (arith, length-slice_split (λ b. eqb b comma) bs))) ∙ moved (each_number (parts bs))
  where
    moved : (o : Option (List ℕ)) → behind (vs ++ w ∷ []) o ≡ behind vs (and_then o (λ ws. Some (w ∷ ws)))
    moved None = refl
    moved (Some ws) = ap {B = Option (List ℕ)} Some (append_assoc vs (w ∷ []) ws)

at_digit : (bs : List ℕ) → Same bs → (vs : List ℕ) (d : Option ℕ) → and_then d (λ w. numbers_on vs (Some w) bs) ≡ behind vs (and_then d (λ w. each_after (Some w) (parts bs)))
at_digit bs ih vs None = refl
at_digit bs ih vs (Some w) = ih vs (Some w)

at_byte : (b : ℕ) (bs : List ℕ) → Same bs → (vs : List ℕ) (v : Option ℕ) (t : Bool) → eqb b comma ≡ t → numbers_on vs v (b ∷ bs) ≡ behind vs (each_after v (parts (b ∷ bs)))
at_byte b bs ih vs v true e = rw e (at_comma bs ih vs v)
at_byte b bs ih vs v false e = rw e (at_digit bs ih vs (with_digit v b) ∙ ap (behind vs) (sym (each_onto v b (parts bs))))

same : (bs : List ℕ) → Same bs
same [] vs None = refl
same [] vs (Some w) = refl
same (b ∷ bs) vs v = at_byte b bs (same bs) vs v (eqb b comma) refl

pub byte_by_byte : (bs : List ℕ) → numbers_on [] None bs ≡ numbers_in bs
unfolding numbers_in
byte_by_byte bs =
    same bs [] None ∙ ap (behind []) (each_begun (parts bs) (omega (arith, length-slice_split (λ b. eqb b comma) bs))) ∙ whole (each_number (parts bs))
  where
    whole : (o : Option (List ℕ)) → behind [] o ≡ o
    whole None = refl
    whole (Some ws) = refl
