-- The words that a board of the echo method posts are of the kinds 1 to 5, with values up to the last character. Assumes nothing.
use Rattle.std.proofs.Common.{◌≡◌, ℕ, zero, suc, ◌<◌, ◌≤◌, Bool, true, false, cond, eqb, leb, List, Some, refl, ⊎_elim, arith}
use Rattle.std.proofs.lemmas.Bool.{eqb-true, leb-true, and_parts, or_cases}
use Rattle.vote.specs.declared.Depth.{Depth}
use Rattle.vote.specs.declared.Depth.TheVariants.{One, Two}
use Rattle.vote.specs.declared.Vote.{Vote}
use Rattle.vote.specs.History.{Seen, seen}
use Rattle.vote.specs.Search.{or_else, when, is}
use Rattle.vote.specs.Setting.{Setting, lowest}
use Rattle.vote.proofs.Options.{holds_none, is_found, else_cases, when_found}
use Rattle.vote.proofs.Memories.{memo_sound}
use Rattle.agreement.specs.Echo.{second, third, outcome, fifth, found, said, echoed, posts}
use Rattle.agreement.proofs.Echo.Tests.{lowest_found}

module _ (S : Setting) where
  pub low : (p : ℕ → Bool) (v : ℕ) → lowest S p ≡ Some v → v ≤ S.characters
  low p v h = (lowest_found S p v h).0

  pub zero_low : (b : Bool) (v : ℕ) → when b 0 ≡ Some v → v ≤ S.characters
  zero_low b v h = omega (arith, (when_found b 0 v h).1)

  pub low_or_zero : (p : ℕ → Bool) (b : Bool) (v : ℕ) → or_else (lowest S p) (when b 0) ≡ Some v → v ≤ S.characters
  low_or_zero p b v h = ⊎_elim (low p v) (zero_low b v) (else_cases (lowest S p) _ v h)

  found_bound : (d : Depth) (c : ℕ) (x : Seen) (v : ℕ) → found S d c x ≡ Some v → (1 ≤ c) × (c < 6) × (v ≤ S.characters)
  unfolding found second third outcome fifth
  found_bound d zero x v h = holds_none h
  found_bound d (suc zero) x v h = holds_none h
  found_bound d (suc (suc zero)) x v h = (omega arith, omega arith, low _ v h)
  found_bound d (suc (suc (suc zero))) x v h = (omega arith, omega arith, low_or_zero _ _ v h)
  found_bound One (suc (suc (suc (suc c)))) x v h = holds_none h
  found_bound Two (suc (suc (suc (suc zero)))) x v h = (omega arith, omega arith, ⊎_elim (zero_low _ v) (low _ v) (else_cases (when _ 0) _ v h))
  found_bound Two (suc (suc (suc (suc (suc zero))))) x v h = (omega arith, omega arith, low_or_zero _ _ v h)
  found_bound Two (suc (suc (suc (suc (suc (suc c)))))) x v h = holds_none h

  pub echo_bounded : (s : ℕ) (h : List Vote) (c v : ℕ) → s ≤ S.characters → posts S s h c v ≡ true → (1 ≤ c) × (c < 6) × (v ≤ S.characters)
  unfolding posts echoed said
  echo_bounded s h c v l p = go (eqb c 1) refl p
    where
      value_bound : echoed S s h v ≡ true → v ≤ S.characters
      value_bound q = ⊎_elim (λ e. omega (arith, l, eqb-true v s e)) (λ e. leb-true _ _ (and_parts (leb v S.characters) _ e).0) (or_cases (eqb v s) _ q)

      go : (b : Bool) → eqb c 1 ≡ b → cond b (echoed S s h v) (is v (said S h c)) ≡ true → (1 ≤ c) × (c < 6) × (v ≤ S.characters)
      go true e q = let one = eqb-true c 1 e in (omega (arith, one), omega (arith, one), value_bound q)
      go false e q =
          memo_sound (λ g. found S S.depth c (seen g)) (λ _ v. (1 ≤ c) × (c < 6) × (v ≤ S.characters)) (λ h v. found_bound S.depth c (seen h) v) (λ w h v k. k) h v (is_found v _ q)
