-- What a board's decision rests on: its branch, and the votes of kind 2 that it had counted when it decided. Assumes nothing.
use Rattle.std.proofs.Common.{◌≡◌, ℕ, zero, suc, ◌≤◌, Bool, true, false, cond, not, ◌&&◌, eqb, ◌≢◌, List, ◌∷◌, Some, None, Option, sym, refl, ap, subst, arith}
use Rattle.quorum.specs.Rules.{ample_by}
use Rattle.quorum.specs.Truth.{clash}
use Rattle.vote.specs.declared.Decision.{Decision}
use Rattle.vote.specs.declared.Depth.{Depth}
use Rattle.vote.specs.declared.Depth.TheVariants.{One, Two}
use Rattle.vote.specs.declared.Vote.{Vote}
use Rattle.vote.specs.History.{seen, speaks}
use Rattle.vote.specs.Search.{when}
use Rattle.vote.specs.Setting.{Setting, grades, decision_on, lowest}
use Rattle.vote.proofs.Options.{holds_one, holds_none, when_found}
use Rattle.vote.proofs.Memories.{memo_sound}
use Rattle.agreement.specs.Decisions.{NoneDecided}
use Rattle.agreement.specs.Plain.{all_say, some_says, branch, compared, decision_found, decided}
use Rattle.agreement.proofs.Steadies.{Ample}
use Rattle.agreement.proofs.Plain.Votes.{SomeVote, AmpleVotes, some_more, ample_more, ample_senders, all_bear, one_differs, one_bears, this_bears}
use Rattle.agreement.proofs.Plain.Lowest.{a_character, no_character}
use Rattle.agreement.proofs.Plain.Branches.{branch_more}

pub one_not_two : {X : Type 0} → One ≡ Two → X
one_not_two e = let n : ◌≡◌ {A = ℕ} 1 2 = ap grades e in absurd (omega arith)

module _ (S : Setting) where
  -- The four ways to decide at depth p. Depth 1 knows the first and the third.
  pub data Verdict (p : Depth) (h : List Vote) (d : Decision) : Type 0 where
    -- no character: the branch is 0, and so are the votes of kind 2
    none : NoneDecided d → branch S h ≡ Some 0 → (p ≡ Two → AmpleVotes S 2 h (λ v. 1 ≤ v → v ≤ S.characters → ⊥)) → Verdict p h d
    -- the branch is 0, and the character that of a vote of kind 2
    taken_over : p ≡ Two → 1 ≤ d.value → d.grade ≡ 1 → branch S h ≡ Some 0 → SomeVote S 2 h (λ v. v ≡ d.value) → Verdict p h d
    -- the branch, which not every vote of kind 2 bears
    kept : 1 ≤ d.value → d.grade ≡ 1 → branch S h ≡ Some d.value → (p ≡ Two → SomeVote S 2 h (λ v. v ≢ d.value)) → Verdict p h d
    -- the branch, which an ample set of votes of kind 2 bears
    confirmed : p ≡ Two → 1 ≤ d.value → d.grade ≡ 2 → branch S h ≡ Some d.value → AmpleVotes S 2 h (λ v. v ≡ d.value) → Verdict p h d

  verdict_more : (p : Depth) (w : Vote) (h : List Vote) (d : Decision) → Verdict p h d → Verdict p (w ∷ h) d
  verdict_more p w h d (none n b f) = none n (branch_more S w h 0 b) (λ t. ample_more S 2 _ w h (f t))
  verdict_more p w h d (taken_over t l g b k) = taken_over t l g (branch_more S w h 0 b) (some_more S 2 _ w h k)
  verdict_more p w h d (kept l g b f) = kept l g (branch_more S w h _ b) (λ t. some_more S 2 _ w h (f t))
  verdict_more p w h d (confirmed t l g b k) = confirmed t l g (branch_more S w h _ b) (ample_more S 2 _ w h k)

  -- ---- as it is decided
  by_branch : (h : List Vote) (b : ℕ) → branch S h ≡ Some b → Verdict One h (decision_on 1 b)
  by_branch h zero e = none (refl, refl) e (λ t. one_not_two t)
  by_branch h (suc v) e = kept (omega arith) refl e (λ t. one_not_two t)

  by_votes : (h : List Vote) (b : ℕ) → branch S h ≡ Some b → Ample S (speaks (seen h) 2) → Verdict Two h (compared S b (seen h))
  unfolding compared
  by_votes h zero e a = go (lowest S (λ v. not (eqb v 0) && some_says S (seen h) 2 v)) refl
    where
      go : (o : Option ℕ) → lowest S (λ v. not (eqb v 0) && some_says S (seen h) 2 v) ≡ o
          → Verdict Two h (elim o [ None ↦ decision_on 1 0 | Some v ↦ decision_on 1 v ])
      go None q = none (refl, refl) e (λ t. ample_senders S 2 h _ a (λ i v l f low high. clash (this_bears S 2 h v i l f) (no_character S _ q v low high)))
      go (Some zero) q = absurd (omega (arith, (a_character S _ 0 q).0))
      go (Some (suc v)) q = taken_over refl (omega arith) refl e (one_bears S 2 h (suc v) (a_character S _ (suc v) q).2)
  by_votes h (suc v) e a = go (all_say S (seen h) 2 (suc v)) refl
    where
      go : (t : Bool) → all_say S (seen h) 2 (suc v) ≡ t → Verdict Two h (decision_on (cond t 2 1) (suc v))
      go true q = confirmed refl (omega arith) refl e (ample_senders S 2 h _ a (all_bear S 2 h (suc v) q))
      go false q = kept (omega arith) refl e (λ t. one_differs S 2 h (suc v) q)

  verdict_now : (p : Depth) (h : List Vote) (d : Decision) → decision_found S p h ≡ Some d → Verdict p h d
  unfolding decision_found
  verdict_now One h d q = go (branch S h) refl q
    where
      go : (o : Option ℕ) → branch S h ≡ o → elim o [ None ↦ None | Some b ↦ Some (decision_on 1 b) ] ≡ Some d → Verdict One h d
      go None e q = holds_none q
      go (Some b) e q = subst (Verdict One h) (holds_one refl q) (by_branch h b e)
  verdict_now Two h d q = go (branch S h) refl q
    where
      go : (o : Option ℕ) → branch S h ≡ o → elim o [ None ↦ None | Some b ↦ when (ample_by S.rule (speaks (seen h) 2)) (compared S b (seen h)) ] ≡ Some d
          → Verdict Two h d
      go None e q = holds_none q
      go (Some b) e q = let k = when_found _ _ d q in subst (Verdict Two h) (sym k.1) (by_votes h b e k.0)

  pub decided_sound : (h : List Vote) (d : Decision) → decided S h ≡ Some d → Verdict S.depth h d
  unfolding decided
  decided_sound h d p = memo_sound _ (Verdict S.depth) (verdict_now S.depth) (verdict_more S.depth) h d p
