-- Tests that are true or false, tests over a list of sets, and a search below a bound. Assumes nothing.
use Rattle.std.specs.Prelude.{◌≡◌, ℕ, zero, suc, ◌<◌, Bool, true, false, not, ◌⊎◌, List, [], ◌∷◌, refl}
use Rattle.std.proofs.Common.{sym, ◌∙◌, inl, inr, ⊎_elim, not-suc-le-zero, arith}
use Rattle.std.proofs.lemmas.Bool.{true≢false, false≢true, and_parts, and_from, or_cases, or_parts, or_left, or_right, not_from_false, false_from_ne_true, cases_Bool, cases_eq}
use Rattle.std.specs.List.{list_any, list_all}
pub use Rattle.std.proofs.lemmas.Bool.{false_from_ne_true as false_unless}

-- a test is not both true and false
pub clash : {X : Type 0} {b : Bool} → b ≡ true → b ≡ false → X
clash p q = absurd (true≢false (sym p ∙ q))

pub false_since : (a b : Bool) → (a ≡ true → b ≡ true) → b ≡ false → a ≡ false
false_since true b f h = clash (f refl) h
false_since false b f h = refl

-- two tests that imply each other are equal
pub same_truth : (a b : Bool) → (a ≡ true → b ≡ true) → (b ≡ true → a ≡ true) → a ≡ b
same_truth true b f g = sym (f refl)
same_truth false b f g = sym (false_from_ne_true b (λ h. false≢true (g h)))

-- every number below n passes, or one does not
pub all_or : (n : ℕ) (p : ℕ → Bool) → ((i : ℕ) → i < n → p i ≡ true) ⊎ ((i : ℕ) × (i < n) × (p i ≡ false))
all_or zero p = inl (λ i h. absurd (not-suc-le-zero h))
all_or (suc n) p =
    ⊎_elim
    (λ all. ⊎_elim
    (λ here. inl (λ i h. ⊎_elim (λ e. rw e here) (λ ne. all i (omega arith)) (cases_eq i n)))
    (λ here. inr (n, omega arith, here))
    (cases_Bool (p n)))
    (λ k. inr (k.0, omega (arith, k.1), k.2))
    (all_or n p)

-- a test that some set of the list passes, put to use
pub any_found : (p q : ℕ → Bool) (ss : List ℕ) → list_any p ss ≡ true → list_all q ss ≡ true → (s : ℕ) × (p s ≡ true) × (q s ≡ true)
any_found p q [] h a = absurd (false≢true h)
any_found p q (s ∷ ss) h a =
    let k = and_parts (q s) (list_all q ss) a in
    ⊎_elim (λ e. (s, e, k.0)) (λ e. any_found p q ss e k.1) (or_cases (p s) (list_any p ss) h)

pub any_weaker : (p q : ℕ → Bool) → ((s : ℕ) → p s ≡ true → q s ≡ true) → (ss : List ℕ) → list_any p ss ≡ true → list_any q ss ≡ true
any_weaker p q f [] h = h
any_weaker p q f (s ∷ ss) h =
    ⊎_elim (λ e. or_left (q s) (list_any q ss) (f s e)) (λ e. or_right (q s) (list_any q ss) (any_weaker p q f ss e)) (or_cases (p s) (list_any p ss) h)

-- where no set passes, each fails the test
pub none_pass : (p : ℕ → Bool) (ss : List ℕ) → list_any p ss ≡ false → list_all (λ s. not (p s)) ss ≡ true
none_pass p [] h = refl
none_pass p (s ∷ ss) h = let k = or_parts (p s) (list_any p ss) h in and_from _ _ (not_from_false (p s) k.0) (none_pass p ss k.1)
