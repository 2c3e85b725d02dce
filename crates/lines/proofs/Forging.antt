-- Two numbers with a comma behind each, and the rest of the line. Assumes nothing.
use Rattle.std.proofs.Common.{◌≡◌, ℕ, ◌+◌, ◌-◌, ◌≤◌, eqb, List, length, take, drop, Some, Option, sym, ap, ◌∙◌, arith, length-drop, drop-drop}
use Rattle.std.specs.List.{position}
use Rattle.std.proofs.lemmas.List.Quantifiers.{position-Some}
use Rattle.lines.specs.Calls.{Call, forges}
use Rattle.lines.specs.Lines.{readable, forged_in}
use Rattle.numerals.specs.Numerals.{comma, number_in}
use Rattle.numerals.specs.Parts.{field_in}
use Rattle.lines.proofs.Spelling.{then_some}

-- ---- one number
module _ (bs : List ℕ) where
  -- what follows the comma is an end of the bytes
  pub behind_comma : (f : ℕ × List ℕ) → field_in bs ≡ Some f → (n : ℕ) × (n ≤ length bs) × (f.1 ≡ drop n bs)
  behind_comma f e =
      let h = then_some (position (λ b. eqb b comma) bs) _ f e in
      let at = position-Some (λ b. eqb b comma) bs h.0 0 h.1 in
      let k = then_some (number_in (take h.0 bs)) _ f h.2 in
      let s : ◌≡◌ {A = ℕ × List ℕ} (k.0, drop (h.0 + 1) bs) f = let q = k.2 in cc in
      (h.0 + 1, omega (arith, at.0), sym (ap (λ (g : ℕ × List ℕ). g.1) s))

-- ---- two
-- what is made of the second number
abbrev from_field : ℕ → Option (ℕ × List ℕ) → Call
from_field to o = readable o (λ from. forges to from.0 from.1)

-- what is made of the first
abbrev to_field : Option (ℕ × List ℕ) → Call
to_field o = readable o (λ to. from_field to.0 (field_in to.1))

module _ (line rest : List ℕ) (is : rest ≡ drop 2 line) where
  module _ (to : ℕ × List ℕ) (first : Some to ≡ field_in rest) where
    told : from_field to.0 (field_in to.1) ≡ forged_in (drop 2 line)
    told = ap to_field first ∙ ap (λ bs. to_field (field_in bs)) is

    module _ (from : ℕ × List ℕ) (second : Some from ≡ field_in to.1) (long : 2 ≤ length line) where
      place : (n : ℕ) × (n ≤ length line) × (from.1 ≡ drop n line)
      place =
          let a = behind_comma rest to (sym first) in
          let b = behind_comma to.1 from (sym second) in
          let r : to.1 ≡ drop (2 + a.0) line = a.2 ∙ ap (drop a.0) is ∙ drop-drop a.0 2 line in
          let l = ap length is in
          let m = ap length r in
          (2 + a.0 + b.0, omega (arith, b.1, a.1, l, m, length-drop 2 line, length-drop (2 + a.0) line), b.2 ∙ ap (drop b.0) r ∙ drop-drop b.0 (2 + a.0) line)

      pub both : forges to.0 from.0 (drop (length line - length from.1) line) ≡ forged_in (drop 2 line)
      both =
          let p = place in
          let l : length line - length from.1 ≡ p.0 = omega (arith, ap length p.2, p.1, length-drop p.0 line) in
          ap (λ n. forges to.0 from.0 (drop n line)) l ∙ ap (forges to.0 from.0) (sym p.2) ∙ ap (from_field to.0) second ∙ told
