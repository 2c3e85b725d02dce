-- What the plain method posts, and its news: the branch once it is fixed, and otherwise none. Assumes nothing.
use Rattle.std.proofs.Common.{◌≡◌, ℕ, ◌^◌, ◌≤◌, Bool, true, false, not, ◌&&◌, eqb, List, [], ◌∷◌, Some, None, Option, sym, refl, ap, ◌∙◌, ap₂, arith}
use mathlib.Core.Bool.{and-true}
use Rattle.std.proofs.Math.Bool.{and-not_self}
use Rattle.std.specs.Option.{option_eq}
use Rattle.std.proofs.lemmas.Bool.{ne_eqb}
use Rattle.quorum.proofs.Masks.{set_of_is, set_of_ext}
use Rattle.quorum.specs.Members.{member_bit}
use Rattle.vote.specs.declared.Depth.{Depth}
use Rattle.vote.specs.declared.Depth.TheVariants.{One, Two}
use Rattle.vote.specs.declared.News.{News}
use Rattle.vote.specs.declared.Vote.{Vote}
use Rattle.vote.specs.Search.{is}
use Rattle.vote.specs.Setting.{Setting}
use Rattle.agreement.specs.Plain.{branch, branch_posted, posts, plain}
use Rattle.vote.specs.News.{values, no_news, news_of}
use Rattle.plain_board.specs.Step.{branch_news}
use Rattle.vote.proofs.Options.{eqb_turned, same_is}
use Rattle.vote.proofs.Seeking.{set_of_none}

-- kind 2 alone can be new
abbrev with_second : ℕ → News
with_second s = record { kinds = 0 ∷ s ∷ 0 ∷ 0 ∷ 0 ∷ [] }

one_value : (b : ℕ) → b ≤ 8 → values (λ v. eqb v b && true) ≡ 2 ^ b
one_value b low = set_of_is 9 (2 ^ b) _ (λ v h. member_bit v b ∙ eqb_turned b v ∙ sym (and-true (eqb v b))) (λ v h. member_bit v b ∙ ne_eqb b v (omega arith))

none_new : (p : ℕ → Bool) → values (λ v. p v && not (p v)) ≡ 0
none_new p = set_of_ext 9 _ (λ v. false) (λ v h. and-not_self (p v)) ∙ set_of_none 9

module _ (S : Setting) (start : ℕ) (h : List Vote) (w : Vote) where
  abbrev now_posted : Option ℕ
  now_posted = branch_posted S S.depth (w ∷ h)

  abbrev was_posted : Option ℕ
  was_posted = branch_posted S S.depth h

  news_is : news_of (plain S) start h w ≡ with_second (values (λ v. is v now_posted && not (is v was_posted)))
  unfolding news_of posts
  news_is = rw (none_new (λ v. eqb v start), set_of_none 9)

  -- a branch that stays as it was is not posted again
  pub quiet : branch S (w ∷ h) ≡ branch S h → no_news ≡ news_of (plain S) start h w
  quiet e = sym (news_is ∙ ap with_second (ap (λ (o : Option ℕ). values (λ v. is v o && not (is v was_posted))) (posted_same S.depth) ∙ none_new (λ v. is v was_posted)))
    where
      posted_same : (d : Depth) → branch_posted S d (w ∷ h) ≡ branch_posted S d h
      posted_same One = refl
      posted_same Two = e

  -- a branch that is just fixed is new
  pub fixed_news : (b : ℕ) → b ≤ 8 → branch S h ≡ None → branch S (w ∷ h) ≡ Some b → branch_news S.depth b ≡ news_of (plain S) start h w
  fixed_news b low e q = by_depth S.depth ∙ sym news_is
    where
      by_depth : (d : Depth) → branch_news d b ≡ with_second (values (λ v. is v (branch_posted S d (w ∷ h)) && not (is v (branch_posted S d h))))
      by_depth One = sym (ap with_second (set_of_none 9))
      by_depth Two = sym (ap with_second (ap₂ (λ (o p : Option ℕ). values (λ v. is v o && not (is v p))) q e ∙ one_value b low))

-- ---- whether a word is posted, by its kind and the depth
module _ (S : Setting) (start : ℕ) (h : List Vote) (c v : ℕ) where
  pub posts_start : c ≡ 1 → eqb v start ≡ posts S start h c v
  unfolding posts
  posts_start k = rw k

  pub posts_other : (c ≡ 1 → ⊥) → (c ≡ 2 → ⊥) → false ≡ posts S start h c v
  unfolding posts
  posts_other k l = rw (ne_eqb c 1 k, ne_eqb c 2 l)

  pub posts_branch : (r : Option ℕ) → S.depth ≡ Two → c ≡ 2 → r ≡ branch S h → option_eq eqb r (Some v) ≡ posts S start h c v
  unfolding posts
  posts_branch r e k q = same_is v r ∙ rw k (ap (is v) q ∙ ap (λ (z : Depth). is v (branch_posted S z h)) (sym e))

  pub posts_no_branch : S.depth ≡ One → c ≡ 2 → false ≡ posts S start h c v
  unfolding posts
  posts_no_branch e k = rw k (ap (λ (z : Depth). is v (branch_posted S z h)) (sym e))
