-- What a board's branch rests on: the votes of kind 1 that it had counted when the branch was fixed. Assumes nothing.
use Rattle.std.proofs.Common.{◌≡◌, ℕ, ◌≤◌, not, ◌&&◌, eqb, ◌≢◌, ◌⊎◌, List, ◌∷◌, Some, None, Option, refl, ◌∙◌, inl, inr, ⊎_elim, arith}
use Rattle.vote.specs.declared.Vote.{Vote}
use Rattle.vote.specs.History.{seen, speaks}
use Rattle.vote.specs.Search.{or_else}
use Rattle.vote.specs.Setting.{Setting, lowest}
use Rattle.vote.proofs.Options.{holds_one, cond_found}
use Rattle.vote.proofs.Memories.{memo_more, memo_sound}
use Rattle.agreement.specs.Plain.{all_say, branch_found, branch}
use Rattle.agreement.proofs.Steadies.{Ample}
use Rattle.agreement.proofs.Plain.Votes.{SomeVote, AmpleVotes, some_more, ample_more, ample_senders, all_bear, one_differs}
use Rattle.agreement.proofs.Plain.Lowest.{a_character, no_character}

module _ (S : Setting) where
  -- a character: an ample set of boards starts with it; or 0: those of an ample set are known, and no character is that of all
  abbrev pub Branch : List Vote → ℕ → Type 0
  Branch h b =
      ((1 ≤ b) × (b ≤ S.characters) × AmpleVotes S 1 h (λ v. v ≡ b))
      ⊎ ((b ≡ 0) × AmpleVotes S 1 h (λ v. Unit {0}) × ((v : ℕ) → 1 ≤ v → v ≤ S.characters → SomeVote S 1 h (λ u. u ≢ v)))

  branch_keeps : (w : Vote) (h : List Vote) (b : ℕ) → Branch h b → Branch (w ∷ h) b
  branch_keeps w h b (inl k) = inl (k.0, k.1, ample_more S 1 _ w h k.2)
  branch_keeps w h b (inr k) = inr (k.0, ample_more S 1 _ w h k.1, λ v l m. some_more S 1 _ w h (k.2 v l m))

  branch_now : (h : List Vote) (b : ℕ) → branch_found S h ≡ Some b → Branch h b
  unfolding branch_found
  branch_now h b p = let k = cond_found _ _ b p in go k.0 _ refl k.1
    where
      go : Ample S (speaks (seen h) 1) → (o : Option ℕ) → lowest S (λ v. not (eqb v 0) && all_say S (seen h) 1 v) ≡ o → or_else o (Some 0) ≡ Some b → Branch h b
      go a None e q =
          inr (holds_one q refl, ample_senders S 1 h _ a (λ i v l f. tt), λ v l m. one_differs S 1 h v (no_character S (all_say S (seen h) 1) e v l m))
      go a (Some v) e q =
          let k = a_character S (all_say S (seen h) 1) b (e ∙ q) in inl (k.0, k.1, ample_senders S 1 h _ a (all_bear S 1 h b k.2))

  pub branch_sound : (h : List Vote) (b : ℕ) → branch S h ≡ Some b → Branch h b
  unfolding branch
  branch_sound h b p = memo_sound _ Branch branch_now branch_keeps h b p

  pub branch_more : (w : Vote) (h : List Vote) (b : ℕ) → branch S h ≡ Some b → branch S (w ∷ h) ≡ Some b
  unfolding branch
  branch_more w h b p = memo_more _ w h b p

  pub branch_bounded : (h : List Vote) (b : ℕ) → branch S h ≡ Some b → b ≤ S.characters
  branch_bounded h b p = ⊎_elim (λ k. k.1) (λ k. omega (arith, k.0)) (branch_sound h b p)
