-- The lowest character that passes a test: it is one, and where there is none, none passes. Assumes nothing.
use Rattle.std.proofs.Common.{◌≡◌, ℕ, suc, ◌≤◌, Bool, true, false, not, ◌&&◌, eqb, Some, None, ap, arith}
use Rattle.std.proofs.lemmas.Bool.{and_parts, and_from, not-true, not_from_false, eqb-false, ne_eqb}
use Rattle.quorum.specs.Truth.{clash, false_unless}
use Rattle.vote.specs.Search.{given}
use Rattle.vote.specs.Setting.{Setting, lowest}
use Rattle.vote.proofs.Seeking.{seek_found, seek_from}

module _ (S : Setting) where
  pub a_character : (p : ℕ → Bool) (v : ℕ) → lowest S (λ u. not (eqb u 0) && p u) ≡ Some v → (1 ≤ v) × (v ≤ S.characters) × (p v ≡ true)
  unfolding lowest
  a_character p v e =
      let k = seek_found _ _ v e in
      let m = and_parts (not (eqb v 0)) (p v) k.1 in
      let nz = eqb-false v 0 (not-true _ m.0) in
      (omega arith, omega (arith, k.0), m.1)

  pub no_character : (p : ℕ → Bool) → lowest S (λ u. not (eqb u 0) && p u) ≡ None → (v : ℕ) → 1 ≤ v → v ≤ S.characters → p v ≡ false
  unfolding lowest
  no_character p e v l m =
      let passes : p v ≡ true → (not (eqb v 0) && p v) ≡ true = λ q. and_from _ _ (not_from_false _ (ne_eqb v 0 (omega arith))) q in
      false_unless (p v) (λ q. clash (seek_from (suc S.characters) (λ u. not (eqb u 0) && p u) v (omega arith) (passes q)) (ap given e))
