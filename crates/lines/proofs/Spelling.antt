-- Bytes that are read as numbers are those numbers in base ten, with single commas between. Assumes nothing.
use Rattle.std.proofs.Common.{◌≡◌, ℕ, ◌+◌, ◌-◌, ◌*◌, ◌<◌, ◌≤◌, Bool, true, false, cond, ◌&&◌, eqb, ltb, leb, List, [], ◌∷◌, ◌++◌, length, get_or, take, drop, Some, None, decimal, sym, refl, ap, ◌∙◌, ap₂, append_assoc, append-nil, arith}
use lib.Arith.{digits_div, digits_mod}
use Rattle.std.proofs.lemmas.Fmt.{decimal_digit, decimal_step}
use Rattle.std.specs.List.{join_with_byte, position}
use Rattle.std.proofs.lemmas.List.Splits.{join_with_byte-slice_split, length-slice_split}
use Rattle.std.proofs.lemmas.List.Quantifiers.{position-Some}
use Rattle.std.proofs.lemmas.List.{take-append-drop, drop_more}
use Rattle.std.proofs.lemmas.Bool.{eqb-true, leb-true, ltb-true, and_parts}
use Rattle.numerals.specs.Numerals.{comma, digit, with_digit, number_on, number_in, each_number, parts, numbers_in}
use Rattle.numerals.specs.Parts.{field_in}
pub use Rattle.numerals.proofs.Fields.{none_there, then_some}
use Rattle.lines.specs.Texts.{listed}

-- ---- what is there
where_some : {A : Type 0} (b : Bool) (x y : A) → cond b (Some x) None ≡ Some y → (b ≡ true) × (x ≡ y)
where_some true x y e = (refl, cc)
where_some false x y e = none_there e

-- ---- a number
digit_within : (b : ℕ) → digit b ≡ true → (48 ≤ b) × (b ≤ 57)
digit_within b e = let h = and_parts _ _ e in (leb-true _ _ h.0, leb-true _ _ h.1)

digit_more : (v b w : ℕ) → with_digit (Some v) b ≡ Some w → decimal w ≡ decimal v ++ b ∷ []
digit_more v b w e =
    let h = where_some (digit b && ltb 0 v && leb (v * 10 + (b - 48)) 65535) (v * 10 + (b - 48)) w e in
    let t = and_parts (digit b && ltb 0 v) (leb (v * 10 + (b - 48)) 65535) h.0 in
    let u = and_parts (digit b) (ltb 0 v) t.0 in
    let d = digit_within b u.0 in
    let pos : 0 < v = ltb-true 0 v u.1 in
    let small : v * 10 + (b - 48) ≤ 65535 = leb-true (v * 10 + (b - 48)) 65535 t.1 in
    let below : b - 48 < 10 = omega arith in
    ap decimal (sym h.1) ∙ decimal_step (v * 10 + (b - 48)) (omega arith) (omega arith)
    ∙ ap₂ (λ q r. decimal q ++ (48 + r) ∷ []) (digits_div v below) (digits_mod v below) ∙ ap (λ k. decimal v ++ k ∷ []) (omega arith)

digits_more : (p : List ℕ) (v n : ℕ) → number_on (Some v) p ≡ Some n → decimal n ≡ decimal v ++ p
digits_more [] v n e = let s : v ≡ n = cc in ap decimal (sym s) ∙ sym (append-nil (decimal v))
digits_more (b ∷ p) v n e =
    let h = then_some (with_digit (Some v) b) (λ w. number_on (Some w) p) n e in
    digits_more p h.0 n h.2 ∙ ap (λ ds. ds ++ p) (digit_more v b h.0 h.1) ∙ append_assoc (decimal v) (b ∷ []) p

pub number_spelled : (p : List ℕ) (n : ℕ) → number_in p ≡ Some n → p ≡ decimal n
number_spelled [] n e = none_there e
number_spelled (b ∷ p) n e =
    let h = then_some (with_digit None b) (λ w. number_on (Some w) p) n e in
    let f = where_some (digit b) (b - 48) h.0 h.1 in
    let d = digit_within b f.0 in
    let one : decimal h.0 ≡ b ∷ [] = ap decimal (sym f.1) ∙ decimal_digit (b - 48) (omega arith) ∙ ap (λ k. k ∷ []) (omega arith) in
    sym (digits_more p h.0 n h.2 ∙ ap (λ ds. ds ++ p) one)

-- ---- numbers with commas between
joined_spelled : (ps : List (List ℕ)) (vs : List ℕ) → 0 < length ps → each_number ps ≡ Some vs → comma ∷ join_with_byte comma ps ≡ listed vs
joined_spelled [] vs l e = absurd (omega arith)
joined_spelled (p ∷ []) vs l e =
    let h = then_some (number_in p) _ vs e in
    let s : h.0 ∷ [] ≡ vs = let q = h.2 in cc in
    ap (λ xs. comma ∷ xs) (number_spelled p h.0 h.1 ∙ sym (append-nil (decimal h.0))) ∙ ap listed s
joined_spelled (p ∷ q ∷ ps) vs l e =
    let h = then_some (number_in p) _ vs e in
    let k = then_some (each_number (q ∷ ps)) _ vs h.2 in
    let s : h.0 ∷ k.0 ≡ vs = let q = k.2 in cc in
    ap₂ (λ x xs. comma ∷ (x ++ xs)) (number_spelled p h.0 h.1) (joined_spelled (q ∷ ps) k.0 (omega arith) k.1) ∙ ap listed s

pub numbers_spelled : (bs vs : List ℕ) → numbers_in bs ≡ Some vs → comma ∷ bs ≡ listed vs
unfolding numbers_in
numbers_spelled bs vs e =
    ap (λ xs. comma ∷ xs) (sym (join_with_byte-slice_split comma bs)) ∙ joined_spelled (parts bs) vs (omega (arith, length-slice_split (λ b. eqb b comma) bs)) e

-- ---- a number that a comma ends
pub field_spelled : (bs : List ℕ) (f : ℕ × List ℕ) → field_in bs ≡ Some f → bs ≡ decimal f.0 ++ comma ∷ f.1
field_spelled bs f e =
    let h = then_some (position (λ b. eqb b comma) bs) _ f e in
    let i = h.0 in
    let at = position-Some (λ b. eqb b comma) bs i 0 h.1 in
    let k = then_some (number_in (take i bs)) _ f h.2 in
    let s : ◌≡◌ {A = ℕ × List ℕ} (k.0, drop (i + 1) bs) f = let q = k.2 in cc in
    sym (take-append-drop i bs)
    ∙ ap₂ (λ x xs. x ++ xs) (number_spelled (take i bs) k.0 k.1) (drop_more bs i 0 at.0 ∙ ap (λ b. b ∷ drop (i + 1) bs) (eqb-true (get_or bs i 0) comma at.1))
    ∙ ap (λ (g : ℕ × List ℕ). decimal g.0 ++ comma ∷ g.1) s
