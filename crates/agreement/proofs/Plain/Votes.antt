-- The votes of one kind that a board has counted: of some board, or of an ample set of boards. Assumes nothing.
use Rattle.std.proofs.Common.{◌≡◌, ℕ, ◌<◌, Bool, true, false, not, ◌≢◌, List, ◌∷◌, Some, Option, refl, ap, ◌∙◌, ⊎_elim}
use Rattle.std.proofs.lemmas.Bool.{or_cases, or_parts, not-true, not-false}
use Rattle.quorum.specs.Truth.{clash}
use Rattle.vote.specs.declared.Vote.{Vote}
use Rattle.vote.specs.History.{seen, first, says, speaks}
use Rattle.vote.specs.Search.{given}
use Rattle.vote.specs.Setting.{Setting}
use Rattle.vote.proofs.Options.{given_found, is_found, is_from, holds_one}
use Rattle.vote.proofs.Seeking.{seek_found, seek_from, all_found}
use Rattle.vote.proofs.Counting.{first_more}
use Rattle.agreement.specs.Plain.{all_say, some_says}
use Rattle.agreement.proofs.Steadies.{Ample}

module _ (S : Setting) where
  -- of some board a vote whose value is such
  abbrev pub SomeVote : ℕ → List Vote → (ℕ → Type 0) → Type 0
  SomeVote c h P = (i : ℕ) × (i < S.rule.crew) × (v : ℕ) × (first h c i ≡ Some v) × P v

  -- of an ample set of boards votes whose values are such
  abbrev pub AmpleVotes : ℕ → List Vote → (ℕ → Type 0) → Type 0
  AmpleVotes c h P = (p : ℕ → Bool) × Ample S p × ((i : ℕ) → i < S.rule.crew → p i ≡ true → (v : ℕ) × (first h c i ≡ Some v) × P v)

  pub some_more : (c : ℕ) (P : ℕ → Type 0) (w : Vote) (h : List Vote) → SomeVote c h P → SomeVote c (w ∷ h) P
  some_more c P w h k = (k.0, k.1, k.2, first_more w h c k.0 k.2 k.3, k.4)

  pub ample_more : (c : ℕ) (P : ℕ → Type 0) (w : Vote) (h : List Vote) → AmpleVotes c h P → AmpleVotes c (w ∷ h) P
  ample_more c P w h k = (k.0, k.1, λ i l q. let a = k.2 i l q in (a.0, first_more w h c i a.0 a.1, a.2))

  -- where the senders of kind c are ample, what holds of every vote of that kind holds of an ample set of them
  pub ample_senders : (c : ℕ) (h : List Vote) (P : ℕ → Type 0) → Ample S (speaks (seen h) c)
      → ((i v : ℕ) → i < S.rule.crew → first h c i ≡ Some v → P v) → AmpleVotes c h P
  ample_senders c h P a f = (speaks (seen h) c, a, λ i l q. let k = given_found (first h c i) q in (k.0, k.1, f i k.0 l k.1))

  -- every vote of kind c bears v, or one does not
  pub all_bear : (c : ℕ) (h : List Vote) (v : ℕ) → all_say S (seen h) c v ≡ true → (i u : ℕ) → i < S.rule.crew → first h c i ≡ Some u → u ≡ v
  unfolding all_say
  all_bear c h v p i u l e =
      ⊎_elim (λ q. clash (ap given e) (not-true (given (first h c i)) q))
      (λ q. holds_one e (is_found v (first h c i) q))
      (or_cases (not (speaks (seen h) c i)) _ (all_found _ _ p i l))

  pub one_differs : (c : ℕ) (h : List Vote) (v : ℕ) → all_say S (seen h) c v ≡ false → SomeVote c h (λ u. u ≢ v)
  unfolding all_say
  one_differs c h v p =
      let a = given_found _ (not-false _ p) in
      let b = seek_found _ _ a.0 a.1 in
      let m = or_parts (not (speaks (seen h) c a.0)) (says (seen h) c v a.0) (not-true _ b.1) in
      let k = given_found (first h c a.0) (not-false _ m.0) in
      (a.0, b.0, k.0, k.1, λ z. clash (is_from v (k.1 ∙ ap {B = Option ℕ} Some z)) m.1)

  -- some vote of kind c bears v
  pub one_bears : (c : ℕ) (h : List Vote) (v : ℕ) → some_says S (seen h) c v ≡ true → SomeVote c h (λ u. u ≡ v)
  unfolding some_says
  one_bears c h v p = let a = given_found _ p in let b = seek_found _ _ a.0 a.1 in (a.0, b.0, v, is_found v _ b.1, refl)

  pub this_bears : (c : ℕ) (h : List Vote) (v i : ℕ) → i < S.rule.crew → first h c i ≡ Some v → some_says S (seen h) c v ≡ true
  unfolding some_says
  this_bears c h v i l e = seek_from _ _ i l (is_from v e)
