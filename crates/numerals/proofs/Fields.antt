-- A number has no comma and at most five digits, so that the first comma ends the first of several, and stands no later than behind five bytes. Assumes nothing.
use Rattle.std.proofs.Common.{◌≡◌, ℕ, ◌+◌, ◌*◌, ◌<◌, ◌≤◌, true, false, eqb, List, [], ◌∷◌, ◌++◌, length, get_or, take, drop, Some, None, Option, sym, refl, ap, ◌∙◌, ap₂, drop-drop, arith, length-append, append_assoc, inl, inr, zero, suc}
use Rattle.std.specs.List.{All, join_with_byte, position, position_or_len}
use Rattle.std.proofs.Math.Seq.{take-append_seam, drop-append_seam, get_or-append_seam}
use Rattle.std.proofs.lemmas.Bool.{ne_eqb, eqb-true, lt-ltb, cond-true}
use Rattle.std.proofs.lemmas.Grind.{common_steps}
use Rattle.std.proofs.lemmas.List.{get_or_append_left, take-append-drop, drop_more, get_or-take, length-take}
use Rattle.std.proofs.lemmas.Bool.{cases_lt}
use Rattle.std.proofs.lemmas.List.Elements.{All-nil, All-cons}
use Rattle.std.proofs.lemmas.List.Quantifiers.{position-Some}
use Rattle.std.proofs.lemmas.List.Splits.{slice_split_none, slice_split_at, join_with_byte-slice_split, length-slice_split}
use Rattle.std.proofs.lemmas.List.Sums.{position_or_len_is}
use Rattle.numerals.specs.Numerals.{comma, max_number, and_then, with_digit, number_on, number_in, each_number, parts, numbers_in}
use Rattle.numerals.specs.Parts.{field_in}
use Rattle.numerals.proofs.Reading.{none_after_zero}

-- ---- what is there
pub none_there : {A : Type 0} {x : A} {X : Type 0} → None ≡ Some x → X
none_there e = absurd cc

pub then_some : {A B : Type 0} (o : Option A) (f : A → Option B) (y : B) → and_then o f ≡ Some y → (x : A) × (o ≡ Some x) × (f x ≡ Some y)
then_some None f y e = none_there e
then_some (Some x) f y e = (x, refl, e)

-- ---- one number
digit_no_comma : (o : Option ℕ) (b w : ℕ) → with_digit o b ≡ Some w → eqb b comma ≡ false
digit_no_comma None b w e = ne_eqb b comma (λ s. none_there (sym (ap (with_digit None) s) ∙ e))
digit_no_comma (Some v) b w e = ne_eqb b comma (λ s. none_there (sym (ap (with_digit (Some v)) s) ∙ e))

no_comma_on : (o : Option ℕ) (bs : List ℕ) (v : ℕ) → number_on o bs ≡ Some v → All (λ b. eqb b comma ≡ false) bs
no_comma_on o [] v e = All-nil (λ b. eqb b comma ≡ false)
no_comma_on o (b ∷ bs) v e =
    let h = then_some (with_digit o b) (λ w. number_on (Some w) bs) v e in
    All-cons (λ b. eqb b comma ≡ false) b bs (digit_no_comma o b h.0 h.1) (no_comma_on (Some h.0) bs v h.2)

pub one_read : (bs : List ℕ) (v : ℕ) → number_in bs ≡ Some v → numbers_in bs ≡ Some (v ∷ [])
unfolding numbers_in
one_read bs v e =
    ap each_number (slice_split_none (λ b. eqb b comma) bs (no_comma_on None bs v e)) ∙ ap (λ (o : Option ℕ). and_then o (λ w. Some (w ∷ []))) e

-- ---- one of several
pub first_read : (p rest : List ℕ) (v : ℕ) → number_in p ≡ Some v → numbers_in (p ++ comma ∷ rest) ≡ and_then (numbers_in rest) (λ vs. Some (v ∷ vs))
unfolding numbers_in
first_read p rest v e =
    ap each_number (slice_split_at (λ b. eqb b comma) p comma rest (no_comma_on None p v e) refl)
    ∙ ap (λ (o : Option ℕ). and_then o (λ w. and_then (numbers_in rest) (λ vs. Some (w ∷ vs)))) e

-- a comma with none before it is the first
first_at : (bs : List ℕ) (i : ℕ) → i < length bs → ((k : ℕ) → k < i → eqb (get_or bs k 0) comma ≡ false) → eqb (get_or bs i 0) comma ≡ true
    → position (λ b. eqb b comma) bs ≡ Some i
first_at bs i l before at =
    let first : position_or_len (λ b. eqb b comma) bs ≡ i = position_or_len_is (λ b. eqb b comma) bs i 0 (omega arith) before (λ _. at) in
    cond-true _ _ None (lt-ltb _ (length bs) (omega arith)) ∙ ap {B = Option ℕ} Some first

-- the number before the comma, and what is behind
abbrev pub cut_at : List ℕ → Option ℕ → Option (ℕ × List ℕ)
cut_at bs o = and_then o (λ i. and_then (number_in (take i bs)) (λ v. Some (v, drop (i + 1) bs)))

pub field_at : (p rest : List ℕ) (v : ℕ) → number_in p ≡ Some v → field_in (p ++ comma ∷ rest) ≡ Some (v, rest)
field_at p rest v e =
    let bs = p ++ comma ∷ rest in
    let l : length bs ≡ length p + 1 + length rest = omega (arith, length-append p (comma ∷ rest)) in
    let found : position (λ b. eqb b comma) bs ≡ Some (length p) = first_at bs (length p) (omega arith)
    (λ k less. ap (λ b. eqb b comma) (get_or_append_left p (comma ∷ rest) 0 k less) ∙ no_comma_on None p v e k 0 less) (ap (λ b. eqb b comma) (get_or-append_seam p comma rest 0)) in
    let behind : drop (length p + 1) bs ≡ rest = sym (drop-drop 1 (length p) bs) ∙ ap (drop 1) (drop-append_seam p (comma ∷ rest)) in
    ap (cut_at bs) found
    ∙ ap₂ (λ q r. and_then (number_in q) (λ w. Some (w, r))) (take-append_seam p (comma ∷ rest)) behind
    ∙ ap (λ (o : Option ℕ). and_then o (λ w. Some (w, rest))) e

-- the numbers are the first and those behind its comma
pub field_leads : (bs : List ℕ) (f : ℕ × List ℕ) → Some f ≡ field_in bs → and_then (numbers_in f.1) (λ vs. Some (f.0 ∷ vs)) ≡ numbers_in bs
field_leads bs f e =
    let h = then_some (position (λ b. eqb b comma) bs) _ f (sym e) in
    let i = h.0 in
    let at = position-Some (λ b. eqb b comma) bs i 0 h.1 in
    let k = then_some (number_in (take i bs)) _ f h.2 in
    let s : ◌≡◌ {A = ℕ × List ℕ} (k.0, drop (i + 1) bs) f = let q = k.2 in cc in
    let cut : take i bs ++ comma ∷ drop (i + 1) bs ≡ bs =
    ap (λ xs. take i bs ++ xs) (sym (drop_more bs i 0 at.0 ∙ ap (λ b. b ∷ drop (i + 1) bs) (eqb-true (get_or bs i 0) comma at.1))) ∙ take-append-drop i bs in
    ap (λ (g : ℕ × List ℕ). and_then (numbers_in g.1) (λ vs. Some (g.0 ∷ vs))) (sym s)
    ∙ sym (first_read (take i bs) (drop (i + 1) bs) k.0 k.1) ∙ ap numbers_in cut

-- where no number and comma lead, all is one number, or nothing
module _ (bs : List ℕ) (none : None ≡ field_in bs) where
  of_parts : number_in bs ≡ None → (ps : List (List ℕ)) → 0 < length ps → join_with_byte comma ps ≡ bs → None ≡ each_number ps
  of_parts alone [] l j = absurd (omega arith)
  of_parts alone (p ∷ []) l j = ap (λ (o : Option ℕ). and_then o (λ v. Some (v ∷ []))) (sym (ap number_in j ∙ alone))
  of_parts alone (p ∷ q ∷ ps) l j = of_first (number_in p) refl
    where
      of_first : (a : Option ℕ) → number_in p ≡ a → None ≡ and_then a (λ v. and_then (each_number (q ∷ ps)) (λ vs. Some (v ∷ vs)))
      of_first None e = refl
      of_first (Some v) e = none_there (none ∙ ap field_in (sym j) ∙ field_at p (join_with_byte comma (q ∷ ps)) v e)

  pub last_read : (o : Option ℕ) → o ≡ number_in bs → and_then o (λ v. Some (v ∷ [])) ≡ numbers_in bs
  unfolding numbers_in
  last_read None e = of_parts (sym e) (parts bs) (omega (arith, length-slice_split (λ b. eqb b comma) bs)) (join_with_byte-slice_split comma bs)
  last_read (Some v) e = sym (one_read bs v (sym e))

-- ---- how long one is
digit_grows : (v b w : ℕ) → with_digit (Some v) b ≡ Some w → (v * 10 ≤ w) × (w ≤ max_number)
digit_grows v b w e = (grind (arith, common_steps), grind (arith, common_steps))

-- the least number with k digits behind those of another
abbrev grown : ℕ → ℕ → ℕ
grown zero least = least
grown (suc k) least = grown k (least * 10)

too_large : (k least v : ℕ) (bs : List ℕ) → k ≤ length bs → least ≤ v → v ≤ max_number → max_number < grown k least → number_on (Some v) bs ≡ None
too_large zero least v bs r l h g = absurd (omega arith)
too_large (suc k) least v [] r l h g = absurd (omega arith)
too_large (suc k) least v (b ∷ bs) r l h g = digit_more (with_digit (Some v) b) refl (λ w d. too_large k (least * 10) w bs (omega arith) (omega (arith, d.0)) d.1 g)
  where
    digit_more : (o : Option ℕ) → with_digit (Some v) b ≡ o → ((w : ℕ) → (v * 10 ≤ w) × (w ≤ max_number) → number_on (Some w) bs ≡ None) → and_then o (λ w. number_on (Some w) bs) ≡ None
    digit_more None e none = refl
    digit_more (Some w) e none = none w (digit_grows v b w e)

first_small : (b w : ℕ) → with_digit None b ≡ Some w → w ≤ max_number
first_small b w e = grind (arith, common_steps)

pub too_long : (bs : List ℕ) → 6 ≤ length bs → number_in bs ≡ None
too_long [] l = refl
too_long (b ∷ bs) l = first (with_digit None b) refl
  where
    first : (o : Option ℕ) → with_digit None b ≡ o → and_then o (λ v. number_on (Some v) bs) ≡ None
    first None e = refl
    first (Some zero) e = sym (none_after_zero bs zero (omega arith) refl)
    first (Some (suc v)) e = too_large 5 1 (suc v) bs (omega arith) (omega arith) (first_small b (suc v) e) (omega arith)

-- so that the first comma is looked for in the first n bytes alone, where n is 6, or all of them
module _ (bs : List ℕ) (n : ℕ) (enough : n < length bs → 6 ≤ n) where
  near_first : (i : ℕ) → position (λ b. eqb b comma) bs ≡ Some i → i < n → position (λ b. eqb b comma) (take n bs) ≡ Some i
  near_first i e l =
      let at = position-Some (λ b. eqb b comma) bs i 0 e in
      first_at (take n bs) i (omega (arith, length-take n bs)) (λ k less. ap (λ b. eqb b comma) (get_or-take n bs k 0 (omega arith)) ∙ at.2 k less)
      (ap (λ b. eqb b comma) (get_or-take n bs i 0 l) ∙ at.1)

  pub none_near : None ≡ position (λ b. eqb b comma) (take n bs) → None ≡ field_in bs
  none_near none = anywhere (position (λ b. eqb b comma) bs) refl
    where
      anywhere : (o : Option ℕ) → position (λ b. eqb b comma) bs ≡ o → None ≡ cut_at bs o
      anywhere None e = refl
      anywhere (Some i) e =
          elim (cases_lt i n) [
            | inl l ↦ none_there (none ∙ near_first i e l)
            | inr l ↦ let at = position-Some (λ b. eqb b comma) bs i 0 e in
                sym (ap (λ (o : Option ℕ). and_then o (λ v. Some (v, drop (i + 1) bs))) (too_long (take i bs) (omega (arith, length-take i bs))))
          ]

  pub one_near : (i : ℕ) → Some i ≡ position (λ b. eqb b comma) (take n bs) → cut_at bs (Some i) ≡ field_in bs
  one_near i e =
      let at = position-Some (λ b. eqb b comma) (take n bs) i 0 (sym e) in
      let l : (i < n) × (i < length bs) = let q = at.0 in (omega (arith, length-take n bs), omega (arith, length-take n bs)) in
      sym (ap (cut_at bs) (first_at bs i l.1 (λ k less. ap (λ b. eqb b comma) (sym (get_or-take n bs k 0 (omega arith))) ∙ at.2 k less)
      (ap (λ b. eqb b comma) (sym (get_or-take n bs i 0 l.0)) ∙ at.1)))

-- ---- one after the other
-- the numbers vs, and those that were read behind them
abbrev pub led : List ℕ → Option (List ℕ) → Option (List ℕ)
led vs o = and_then o (λ ws. Some (vs ++ ws))

module _ (vs bs : List ℕ) (all : Option (List ℕ)) (so_far : led vs (numbers_in bs) ≡ all) where
  pub field_led : (f : ℕ × List ℕ) → Some f ≡ field_in bs → led (vs ++ f.0 ∷ []) (numbers_in f.1) ≡ all
  field_led f e = moved (numbers_in f.1) ∙ ap (led vs) (field_leads bs f e) ∙ so_far
    where
      moved : (o : Option (List ℕ)) → led (vs ++ f.0 ∷ []) o ≡ led vs (and_then o (λ ws. Some (f.0 ∷ ws)))
      moved None = refl
      moved (Some ws) = ap {B = Option (List ℕ)} Some (append_assoc vs (f.0 ∷ []) ws)

  pub last_led : None ≡ field_in bs → (o : Option ℕ) → o ≡ number_in bs → and_then o (λ v. Some (vs ++ v ∷ [])) ≡ all
  last_led none o e = moved o ∙ ap (led vs) (last_read bs none o e) ∙ so_far
    where
      moved : (o : Option ℕ) → and_then o (λ v. Some (vs ++ v ∷ [])) ≡ led vs (and_then o (λ v. Some (v ∷ [])))
      moved None = refl
      moved (Some v) = refl
