-- One vote makes a board post at most six words: the echo of the vote's value, that of 0, and one word of each other kind. Assumes nothing but that nobody may fail.
use Rattle.std.proofs.Common.{◌≡◌, ℕ, zero, suc, ◌+◌, ◌*◌, ◌%◌, ◌≤◌, Bool, true, false, cond, not, ◌&&◌, eqb, leb, List, ◌∷◌, Some, sym, refl, ap, ◌∙◌, ⊎_elim, arith}
use lib.Count.{ones, ones_step}
use Rattle.std.proofs.lemmas.Bool.{and_parts, or_cases, not-true, cases_Bool, cases_eq, eqb-true, eqb-false, ne_eqb}
use Rattle.quorum.specs.Sets.{set_of}
use Rattle.quorum.specs.Rules.{strong_by}
use Rattle.quorum.specs.Truth.{clash, false_unless}
use Rattle.quorum.specs.Members.{halve}
use Rattle.quorum.proofs.Masks.{set_of_ext, bit_le, bit_split}
use Rattle.vote.specs.declared.Vote.{Vote}
use Rattle.vote.specs.History.{seen, counted, ever}
use Rattle.vote.specs.Setting.{Setting}
use Rattle.agreement.specs.Echo.{echoes, said, echoed, posts, echo}
use Rattle.vote.specs.News.{values, newly, news_of}
use Rattle.vote.proofs.Options.{holds_one}
use Rattle.vote.proofs.Seeking.{set_of_none}
use Rattle.echo_board.specs.Laws.{words_in}
use Rattle.echo_board.proofs.Due.{new_only, weak_before, other_same}
use Rattle.echo_board.proofs.Stays.{word_said}

-- ---- how many a set has
low : (x : ℕ) (b : Bool) → (x * 2 + cond b 1 0) % 2 ≡ cond b 1 0
low x true = omega arith
low x false = omega arith

size_step : (n : ℕ) (p : ℕ → Bool) → ones (set_of (suc n) p) ≡ cond (p 0) 1 0 + ones (set_of n (λ i. p (suc i)))
unfolding set_of
size_step n p = let s = set_of n (λ i. p (suc i)) in ones_step (s * 2 + cond (p 0) 1 0) ∙ rw (halve s (p 0), low s (p 0))

size_none : ones 0 ≡ 0
unfolding ones
size_none = refl

bit_none : (b : Bool) → b ≡ false → cond b 1 0 ≤ 0
bit_none b e = rw e (omega arith)

-- the first is in the set, so no further one is
size_here : (n : ℕ) (p : ℕ → Bool) → ((i j : ℕ) → p i ≡ true → p j ≡ true → i ≡ j) → p 0 ≡ true → ones (set_of (suc n) p) ≤ 1
size_here n p f e =
    let empty : set_of n (λ i. p (suc i)) ≡ 0 = set_of_ext n (λ i. p (suc i)) (λ i. false) (λ i h. false_unless _ (λ q. let z = f 0 (suc i) e q in omega arith)) ∙ set_of_none n in
    omega (arith, size_step n p, ap ones empty, size_none, bit_le (p 0))

-- a set whose members are all the same has one at most
pub size_one : (n : ℕ) (p : ℕ → Bool) → ((i j : ℕ) → p i ≡ true → p j ≡ true → i ≡ j) → ones (set_of n p) ≤ 1
unfolding set_of
size_one zero p f = omega (arith, size_none)
size_one (suc n) p f =
    ⊎_elim (size_here n p f)
    (λ e. omega (arith, size_step n p, size_one n (λ i. p (suc i)) (λ i j a b. let z = f (suc i) (suc j) a b in omega arith), bit_none (p 0) e))
    (cases_Bool (p 0))

size_split : (n : ℕ) (p q : ℕ → Bool) → ones (set_of n p) ≡ ones (set_of n (λ i. p i && q i)) + ones (set_of n (λ i. p i && not (q i)))
unfolding set_of
size_split zero p q = omega (arith, size_none)
size_split (suc n) p q =
    omega (arith, size_step n p, size_step n (λ i. p i && q i), size_step n (λ i. p i && not (q i)), size_split n (λ i. p (suc i)) (λ i. q (suc i)), bit_split (p 0) (q 0))

-- ---- which echoes are new
module _ (S : Setting) (nobody : S.rule.fails 0 ≡ true) (start : ℕ) (w : Vote) where
  strong_now : (h : List Vote) (v : ℕ) → (v ≡ 0 → ⊥) → echoes S v (seen (w ∷ h)) ≡ true → strong_by S.rule (counted (w ∷ h) 1 v) ≡ true
  unfolding echoes
  strong_now h v ne p = ⊎_elim (λ e. e) (λ e. clash (and_parts (eqb v 0) _ e).0 (ne_eqb v 0 ne)) (or_cases (strong_by S.rule (counted (w ∷ h) 1 v)) _ p)

  new_echo : (h : List Vote) (v : ℕ) → (v ≡ 0 → ⊥) → newly (echo S) start h w 1 v ≡ true → v ≡ w.value
  unfolding posts echoed ever
  new_echo h v ne p =
      let k = and_parts (echoed S start (w ∷ h) v) _ p in
      let t = new_only (eqb v start) (leb v S.characters) (ever (λ g. echoes S v (seen g)) h) (echoes S v (seen (w ∷ h))) k.0 (not-true _ k.1) in
      ⊎_elim (λ (e : w.value ≡ v). sym e)
      (λ (e : w.value ≡ v → ⊥). clash (sym (other_same S nobody h w v e) ∙ strong_now h v ne t.0) (weak_before S nobody h v t.1))
      (cases_eq w.value v)

  -- ---- how many words of each kind are new
  echoes_two : (h : List Vote) → ones (values (newly (echo S) start h w 1)) ≤ 2
  echoes_two h =
      omega (
        arith,
        size_split 9 (newly (echo S) start h w 1) (λ v. eqb v 0),
        size_one 9 (λ v. newly (echo S) start h w 1 v && eqb v 0) (λ i j a b. zero_both i j (and_parts _ _ a).1 (and_parts _ _ b).1),
        size_one 9 (λ v. newly (echo S) start h w 1 v && not (eqb v 0)) (λ i j a b. same i (and_parts _ _ a) ∙ sym (same j (and_parts _ _ b))),
      )
    where
      zero_both : (i j : ℕ) → eqb i 0 ≡ true → eqb j 0 ≡ true → i ≡ j
      zero_both i j a b = eqb-true i 0 a ∙ sym (eqb-true j 0 b)

      same : (i : ℕ) → (newly (echo S) start h w 1 i ≡ true) × (not (eqb i 0) ≡ true) → i ≡ w.value
      same i k = new_echo h i (eqb-false i 0 (not-true _ k.1)) k.0

  word_one : (h : List Vote) (c : ℕ) → (c ≡ 1 → ⊥) → ones (values (newly (echo S) start h w c)) ≤ 1
  word_one h c ne = size_one 9 (newly (echo S) start h w c) (λ i j a b. holds_one (held i a) (held j b))
    where
      held : (v : ℕ) → newly (echo S) start h w c v ≡ true → said S (w ∷ h) c ≡ Some v
      held v a = word_said S start (w ∷ h) c v ne (and_parts (posts S start (w ∷ h) c v) _ a).0

  pub six_words : (h : List Vote) → words_in (news_of (echo S) start h w) ≤ 6
  unfolding news_of
  six_words h = omega (arith, echoes_two h, word_one h 2 (omega arith), word_one h 3 (omega arith), word_one h 4 (omega arith), word_one h 5 (omega arith))
