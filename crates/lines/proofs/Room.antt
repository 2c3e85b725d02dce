-- A line has no more numbers than there is room for: each but the last takes two bytes at least. Assumes nothing.
use Rattle.std.proofs.Common.{◌≡◌, ℕ, ◌+◌, ◌*◌, ◌<◌, ◌≤◌, List, [], ◌∷◌, ◌++◌, length, Some, None, Option, refl, ap, arith, length-append}
use Rattle.std.specs.List.{join_with_byte}
use Rattle.std.proofs.lemmas.List.Splits.{join_with_byte-slice_split}
use Rattle.numerals.specs.Numerals.{comma, and_then, number_in, each_number, parts, numbers_in}
use Rattle.numerals.proofs.Reading.{after}
use Rattle.lines.proofs.Spelling.{none_there, then_some}

one_byte : (p : List ℕ) (v : ℕ) → number_in p ≡ Some v → 0 < length p
one_byte [] v e = none_there e
one_byte (b ∷ p) v e = omega arith

two_bytes : (ps : List (List ℕ)) (vs : List ℕ) → each_number ps ≡ Some vs → 2 * length vs ≤ length (join_with_byte comma ps) + 1
two_bytes [] vs e = let s : [] ≡ vs = cc in omega (arith, ap length s)
two_bytes (p ∷ []) vs e =
    let h = then_some (number_in p) _ vs e in
    let s : h.0 ∷ [] ≡ vs = let q = h.2 in cc in
    omega (arith, one_byte p h.0 h.1, ap length s)
two_bytes (p ∷ q ∷ ps) vs e =
    let h = then_some (number_in p) _ vs e in
    let k = then_some (each_number (q ∷ ps)) _ vs h.2 in
    let s : h.0 ∷ k.0 ≡ vs = let q = k.2 in cc in
    omega (arith, one_byte p h.0 h.1, two_bytes (q ∷ ps) k.0 k.1, ap length s, length-append p (comma ∷ join_with_byte comma (q ∷ ps)))

numbers_fit : (bs vs : List ℕ) → numbers_in bs ≡ Some vs → length bs < 120 → length vs ≤ 60
unfolding numbers_in
numbers_fit bs vs e short = omega (arith, two_bytes (parts bs) vs e, ap length (join_with_byte-slice_split comma bs))

-- where the room is full and one number more was read, the bytes write no numbers
module _ (bs : List ℕ) (short : length bs < 120) (vs : List ℕ) (full : length vs ≡ 60) (w : ℕ) where
  one_too_many : (later us : Option (List ℕ)) → numbers_in bs ≡ us → and_then later (λ ws. Some ((vs ++ w ∷ []) ++ ws)) ≡ us → us ≡ None
  one_too_many later None e f = refl
  one_too_many None (Some us) e f = none_there f
  one_too_many (Some ws) (Some us) e f =
      let s : (vs ++ w ∷ []) ++ ws ≡ us = cc in
      absurd (omega (arith, numbers_fit bs us e short, ap length s, length-append (vs ++ w ∷ []) ws, length-append vs (w ∷ [])))

  pub too_many : (ps : List (List ℕ)) → after (vs ++ w ∷ []) ps ≡ numbers_in bs → numbers_in bs ≡ None
  too_many ps e = one_too_many (each_number ps) (numbers_in bs) refl e
