-- The family of the sets that lie on one cable keeps the four laws, under every cover. Assumes nothing.
use Rattle.std.specs.Prelude.{◌≡◌, ℕ, ◌^◌, true, false, not, ◌&&◌, List, [], ◌∷◌, nat_lt, refl}
use Rattle.std.proofs.Common.{⊎_elim}
use Rattle.std.proofs.lemmas.Bool.{and_parts, or_cases, or_left, or_right, or_from, not-true, ltb-true}
use Rattle.std.specs.List.{list_all}
use Rattle.quorum.specs.Sets.{member, Part, part, in_crew, in_some}
use Rattle.quorum.specs.Rules.{Lawful}
use Rattle.quorum.specs.Truth.{clash, false_since}
use Rattle.quorum.specs.Members.{member_none, member_lt, part_found, part_from}
use Rattle.cable_rule.specs.Cables.{on_one, cable_rule, fair}

module _ (a b : ℕ) where
  on_one_cases : {X : Type 0} (s : ℕ) → on_one a b s ≡ true → (Part s a → X) → (Part s b → X) → X
  on_one_cases s h f g = ⊎_elim (λ e. f (part_found s a e)) (λ e. g (part_found s b e)) (or_cases (part s a) (part s b) h)

  -- a board on neither cable is in none of the sets
  missed : (k : ℕ) → member k a ≡ false → member k b ≡ false → (ss : List ℕ) → list_all (on_one a b) ss ≡ true → in_some k ss ≡ false
  missed k p q [] h = refl
  missed k p q (s ∷ ss) h =
      let j = and_parts (on_one a b s) (list_all (on_one a b) ss) h in
      or_from (member k s) (in_some k ss) (on_one_cases s j.0 (λ w. false_since _ _ (w k) p) (λ w. false_since _ _ (w k) q)) (missed k p q ss j.1)

pub cable_lawful : (n c k a b : ℕ) → fair n k a b ≡ true → Lawful (cable_rule n c a b)
cable_lawful n c k a b good =
    let e = and_parts (nat_lt k n && not (member k a) && not (member k b) && in_crew n a) (in_crew n b) good in
    let f = and_parts (nat_lt k n && not (member k a) && not (member k b)) (in_crew n a) e.0 in
    let g = and_parts (nat_lt k n && not (member k a)) (not (member k b)) f.0 in
    let h = and_parts (nat_lt k n) (not (member k a)) g.0 in
    record {
      nobody_fails = or_left (part 0 a) _ (part_from 0 a (λ i m. clash m (member_none i)));
      parts_fail = λ s t w p. on_one_cases a b t p
          (λ u. or_left (part s a) _ (part_from s a (λ i m. u i (w i m))))
          (λ u. or_right (part s a) _ (part_from s b (λ i m. u i (w i m))));
      inside_crew = λ s i p m. on_one_cases a b s p
          (λ u. member_lt n a i (ltb-true a (2 ^ n) f.1) (u i m))
          (λ u. member_lt n b i (ltb-true b (2 ^ n) e.1) (u i m));
      never_all = λ ss len p all. clash (all k (ltb-true k n h.0)) (missed a b k (not-true _ h.1) (not-true _ g.1) ss p);
    }
