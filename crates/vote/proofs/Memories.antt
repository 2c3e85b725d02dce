-- A memory keeps its first answer as further votes are counted, and has only answers that its test has given. Assumes nothing.
use Rattle.std.proofs.Common.{◌≡◌, Bool, true, List, [], ◌∷◌, ◌++◌, Some, None, Option, refl, ⊎_elim}
use Rattle.std.proofs.lemmas.Bool.{or_left}
use Rattle.vote.specs.declared.Vote.{Vote}
use Rattle.vote.specs.History.{memo, ever}
use Rattle.vote.proofs.Options.{holds_none, else_cases, else_keeps}

module _ {A : Type 0} (t : List Vote → Option A) where
  pub memo_more : (w : Vote) (h : List Vote) (v : A) → memo t h ≡ Some v → memo t (w ∷ h) ≡ Some v
  unfolding memo
  memo_more w h v p = else_keeps _ p

  pub memo_stays : (g h : List Vote) (v : A) → memo t h ≡ Some v → memo t (g ++ h) ≡ Some v
  memo_stays [] h v p = p
  memo_stays (w ∷ g) h v p = memo_more w (g ++ h) v (memo_stays g h v p)

  -- what holds of an answer as it is given, and stays as more is counted, holds of what is remembered
  pub memo_sound : (P : List Vote → A → Type 0) → ((h : List Vote) (v : A) → t h ≡ Some v → P h v) → ((w : Vote) (h : List Vote) (v : A) → P h v → P (w ∷ h) v)
      → (h : List Vote) (v : A) → memo t h ≡ Some v → P h v
  unfolding memo
  memo_sound P now more [] v p = holds_none p
  memo_sound P now more (w ∷ h) v p = ⊎_elim (λ e. more w h v (memo_sound P now more h v e)) (λ e. now (w ∷ h) v e) (else_cases (memo t h) _ v p)

  pub memo_none : ((h : List Vote) → t h ≡ None) → (h : List Vote) → memo t h ≡ None
  unfolding memo
  memo_none f [] = refl
  memo_none f (w ∷ h) = rw (memo_none f h) (f (w ∷ h))

module _ (t : List Vote → Bool) where
  pub ever_more : (w : Vote) (h : List Vote) → ever t h ≡ true → ever t (w ∷ h) ≡ true
  unfolding ever
  ever_more w h p = or_left (ever t h) _ p

  pub ever_stays : (g h : List Vote) → ever t h ≡ true → ever t (g ++ h) ≡ true
  ever_stays [] h p = p
  ever_stays (w ∷ g) h p = ever_more w (g ++ h) (ever_stays g h p)
