-- A test over the boards of a crew, as a test on the sets of boards that pass. Assumes nothing.
use Rattle.std.proofs.Common.{◌≡◌, ℕ, Bool, true, false, not, ◌||◌, eqb, sym, refl, ap, ◌∙◌}
use Rattle.std.proofs.lemmas.Bool.{eq-eqb, eqb-true, not-true, not_from_false}
use Rattle.quorum.specs.Sets.{member, set_of}
use Rattle.quorum.specs.Truth.{clash, false_unless, false_since, same_truth}
use Rattle.quorum.specs.Members.{member_set_of}
use Rattle.quorum.proofs.Masks.{set_of_ext}
use Rattle.vote.specs.Search.{given, seek, all_below}
use Rattle.vote.proofs.Options.{given_found}
use Rattle.vote.proofs.Seeking.{seek_found, seek_from}

-- ---- a set that holds all of another
module _ (n : ℕ) (p q : ℕ → Bool) (within : (i : ℕ) → p i ≡ true → q i ≡ true) where
  abbrev missed : ℕ → Bool
  missed i = not (not (q i) || p i)

  not_missed : (a b : Bool) → a ≡ b → not (not b || a) ≡ false
  not_missed true b e = rw (sym e)
  not_missed false b e = rw (sym e)

  same_here : (a b : Bool) → (a ≡ true → b ≡ true) → not (not b || a) ≡ false → a ≡ b
  same_here true b f m = sym (f refl)
  same_here false true f m = clash refl m
  same_here false false f m = refl

  none_missed : set_of n p ≡ set_of n q → given (seek n missed) ≡ false
  none_missed e =
      false_unless _ (λ t.
      let a = given_found (seek n missed) t in
      let b = seek_found n missed a.0 a.1 in
      clash b.1 (not_missed (p a.0) (q a.0) (sym (member_set_of n p a.0 b.0) ∙ ap (member a.0) e ∙ member_set_of n q a.0 b.0)))

  -- the sets are equal just where no board of the larger fails the stricter test
  pub all_in : eqb (set_of n p) (set_of n q) ≡ all_below n (λ i. not (q i) || p i)
  all_in =
      same_truth _ _ (λ t. not_from_false _ (none_missed (eqb-true _ _ t)))
      (λ t. eq-eqb _ _ (set_of_ext n p q (λ i h. same_here (p i) (q i) (within i) (false_since (missed i) _ (seek_from n missed i h) (not-true _ t)))))
