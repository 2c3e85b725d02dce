-- Where listed sets are said to hold the whole crew, there are that many sets of the family that do. Assumes nothing.
use Rattle.std.proofs.Common.{◌≡◌, ℕ, zero, suc, ◌<◌, Bool, true, ◌||◌, List, [], ◌∷◌, length, ◌==◌, bit_or, sym, ap, ◌∙◌, ⊎_elim, refl}
use Rattle.std.proofs.lemmas.Bool.{false≢true, eqb-true, not-false, and_from, or_cases, or_left, or_right}
use Rattle.std.proofs.Math.Bool.{or_assoc, or-false}
use Rattle.std.specs.List.{list_any, list_all}
use Rattle.quorum.specs.Sets.{member, part, whole, in_some}
use Rattle.quorum.specs.Listing.{listed, held, HeldMeansIt}
use Rattle.quorum.specs.Members.{member_none, member_or, member_rest, part_from}
use Rattle.quorum.specs.Held.{held_whole}

-- a set that is the whole crew has each board of it
in_whole : (n a : ℕ) → whole n a ≡ true → (i : ℕ) → i < n → member i a ≡ true
in_whole n a h i l = not-false _ (sym (member_rest n a i l) ∙ ap (member i) (eqb-true _ _ h) ∙ member_none i)

-- a test that some listed set passes is passed by one that is a part of a listed set: itself
listed_found : (p : ℕ → Bool) (ms : List ℕ) → list_any p ms ≡ true → (m : ℕ) × (p m ≡ true) × (list_any (part m) ms ≡ true)
listed_found p [] h = absurd (false≢true h)
listed_found p (m ∷ ms) h =
    ⊎_elim (λ e. (m, e, or_left (part m m) _ (part_from m m (λ i q. q))))
    (λ e. let k = listed_found p ms e in (k.0, k.1, or_right (part k.0 m) _ k.2))
    (or_cases (p m) (list_any p ms) h)

module _ (n : ℕ) (ms : List ℕ) where
  -- c sets of the family that hold the crew together with the set a
  abbrev Beside : ℕ → ℕ → Type 0
  Beside c a = (ss : List ℕ) × (length ss ≡ c) × (list_all (listed ms) ss ≡ true) × ((i : ℕ) → i < n → (member i a || in_some i ss) ≡ true)

  -- where b has the boards of a and of a set m of the family, that set is one more beside a
  one_more : (c a b m : ℕ) → ((i : ℕ) → member i b ≡ (member i a || member i m)) → listed ms m ≡ true → Beside c b → Beside (suc c) a
  one_more c a b m e l k = (
    m ∷ k.0,
    ap (λ (j : ℕ). suc j) k.1,
    and_from _ _ l k.2,
    λ i h. sym (ap (λ (t : Bool). t || in_some i k.0) (e i) ∙ or_assoc (member i a) (member i m) (in_some i k.0)) ∙ k.3 i h,
  )

  beside : (c a : ℕ) → held n ms c a ≡ true → Beside c a
  unfolding held
  beside zero a h = ([], refl, refl, λ i l. or_left (member i a) _ (in_whole n a h i l))
  beside (suc c) a h =
      ⊎_elim
      (λ e. one_more c a a 0 (λ i. sym (ap (λ (t : Bool). member i a || t) (member_none i) ∙ or-false (member i a))) refl
      (beside c a (sym (held_whole n ms a c (eqb-true _ _ e)))))
      (λ e.
      let k = listed_found (λ m. held n ms c (bit_or a m)) ms e in
      one_more c a (bit_or a k.0) k.0 (λ i. member_or i a k.0) (or_right (k.0 == 0) _ k.2) (beside c (bit_or a k.0) k.1))
      (or_cases (whole n a) _ h)

pub held_means_it : (n : ℕ) (ms : List ℕ) (c : ℕ) → HeldMeansIt n ms c
unfolding HeldMeansIt
held_means_it n ms c h =
    let k = beside n ms c 0 h in
    (k.0, k.1, k.2, λ i l. sym (ap (λ (t : Bool). t || in_some i k.0) (member_none i)) ∙ k.3 i l)
