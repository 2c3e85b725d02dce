-- What a board posts: its starting character in kind 1, and at depth 2 its branch in kind 2. Assumes nothing.
use Rattle.std.proofs.Common.{◌≡◌, ℕ, ◌<◌, ◌≤◌, Bool, true, false, cond, ◌&&◌, eqb, ◌⊎◌, List, ◌∷◌, Some, sym, refl, subst, subst₂, inl, inr, ⊎_elim, arith}
use Rattle.std.proofs.lemmas.Bool.{false≢true, and_parts, eqb-true, eq-eqb}
use Rattle.vote.specs.declared.Depth.{Depth}
use Rattle.vote.specs.declared.Depth.TheVariants.{One, Two}
use Rattle.vote.specs.declared.Vote.{Vote}
use Rattle.vote.specs.Search.{is}
use Rattle.vote.specs.Setting.{Setting}
use Rattle.vote.proofs.Options.{is_found, is_from}
use Rattle.agreement.specs.Plain.{branch, branch_posted, posts, plain}
use Rattle.agreement.proofs.Running.{Grows}
use Rattle.agreement.proofs.Plain.Branches.{branch_bounded, branch_more}

module _ (S : Setting) where
  abbrev Posts : ℕ → List Vote → ℕ → ℕ → Type 0
  Posts s h c v = ((c ≡ 1) × (v ≡ s)) ⊎ ((c ≡ 2) × (S.depth ≡ Two) × (branch S h ≡ Some v))

  branch_posted_found : (p : Depth) (h : List Vote) (v : ℕ) → is v (branch_posted S p h) ≡ true → (p ≡ Two) × (branch S h ≡ Some v)
  branch_posted_found One h v q = absurd (false≢true q)
  branch_posted_found Two h v q = (refl, is_found v _ q)

  branch_posted_from : (p : Depth) (h : List Vote) (v : ℕ) → p ≡ Two → branch S h ≡ Some v → is v (branch_posted S p h) ≡ true
  branch_posted_from p h v t e = rw t (is_from v e)

  pub posts_found : (s : ℕ) (h : List Vote) (c v : ℕ) → posts S s h c v ≡ true → Posts s h c v
  unfolding posts
  posts_found s h c v p = go (eqb c 1) refl p
    where
      go : (b : Bool) → eqb c 1 ≡ b → cond b (eqb v s) (eqb c 2 && is v (branch_posted S S.depth h)) ≡ true → Posts s h c v
      go true e q = inl (eqb-true c 1 e, eqb-true v s q)
      go false e q = let k = and_parts (eqb c 2) _ q in let b = branch_posted_found S.depth h v k.1 in inr (eqb-true c 2 k.0, b.0, b.1)

  pub posts_start : (s : ℕ) (h : List Vote) → posts S s h 1 s ≡ true
  unfolding posts
  posts_start s h = eq-eqb s s refl

  pub posts_branch : (s : ℕ) (h : List Vote) (b : ℕ) → S.depth ≡ Two → branch S h ≡ Some b → posts S s h 2 b ≡ true
  unfolding posts
  posts_branch s h b t e = branch_posted_from S.depth h b t e

pub plain_grows : (S : Setting) → Grows (plain S)
plain_grows S s w h c v p =
    ⊎_elim (λ k. subst₂ (λ (x y : ℕ). posts S s (w ∷ h) x y ≡ true) (sym k.0) (sym k.1) (posts_start S s (w ∷ h)))
    (λ k. subst (λ (x : ℕ). posts S s (w ∷ h) x v ≡ true) (sym k.0) (posts_branch S s (w ∷ h) v k.1 (branch_more S w h v k.2)))
    (posts_found S s h c v p)

pub plain_bounded : (S : Setting) (s : ℕ) (h : List Vote) (c v : ℕ) → s ≤ S.characters → (plain S).posts s h c v ≡ true → (1 ≤ c) × (c < 6) × (v ≤ S.characters)
plain_bounded S s h c v l p =
    ⊎_elim (λ k. (omega (arith, k.0), omega (arith, k.0), omega (arith, k.1)))
    (λ k. (omega (arith, k.0), omega (arith, k.0), branch_bounded S h v k.2))
    (posts_found S s h c v p)
