-- In a run, decisions are at most one step apart. Assumes nothing.
use Rattle.std.proofs.Common.{◌≡◌, ℕ, ◌≤◌, ◌⊎◌, List, Some, sym, refl, subst, inl, inr, ⊎_elim, arith}
use Rattle.quorum.proofs.Tested.{ample_by_meet}
use Rattle.vote.specs.declared.Decision.{Decision}
use Rattle.vote.specs.declared.Depth.{Depth}
use Rattle.vote.specs.declared.Depth.TheVariants.{Two}
use Rattle.vote.specs.declared.Vote.{Vote}
use Rattle.vote.specs.Setting.{Setting}
use Rattle.vote.proofs.Options.{holds_one}
use Rattle.agreement.specs.Decisions.{NoneDecided, AtMostOneStep}
use Rattle.agreement.specs.Plain.{plain}
use Rattle.agreement.specs.Runs.{Event, history, decision, Crew, Legal}
use Rattle.agreement.proofs.Steps.{both_none, one_character}
use Rattle.agreement.proofs.Plain.Votes.{AmpleVotes}
use Rattle.agreement.proofs.Plain.Branches.{branch_bounded}
use Rattle.agreement.proofs.Plain.Verdicts.{Verdict, none, taken_over, kept, confirmed}
use Rattle.agreement.proofs.Plain.Sources.{OnCharacter, vote_branch, decision_verdict, decision_starts, starts_meet}

-- ---- at depth 2, what (0, 0) and what grade 2 rest on
module _ (S : Setting) where
  none_votes : (h : List Vote) (d : Decision) → NoneDecided d → Verdict S Two h d → AmpleVotes S 2 h (λ v. 1 ≤ v → v ≤ S.characters → ⊥)
  none_votes h d n (none m b f) = f refl
  none_votes h d n (taken_over t l g b k) = absurd (omega (arith, n.0))
  none_votes h d n (kept l g b f) = absurd (omega (arith, n.0))
  none_votes h d n (confirmed t l g b k) = absurd (omega (arith, n.0))

  grade_two_votes : (h : List Vote) (d : Decision) → d.grade ≡ 2 → Verdict S Two h d → (1 ≤ d.value) × AmpleVotes S 2 h (λ v. v ≡ d.value)
  grade_two_votes h d z (none m b f) = absurd (omega (arith, m.1))
  grade_two_votes h d z (taken_over t l g b k) = absurd (omega arith)
  grade_two_votes h d z (kept l g b f) = absurd (omega arith)
  grade_two_votes h d z (confirmed t l g b k) = (l, k)

module _ {S : Setting} (two : 2 ≤ S.rule.cover) (C : Crew S) (r : List Event) (legal : Legal (plain S) C r) where
  same_vote : (P Q : ℕ → Type 0) (u v : ℕ) → u ≡ v → u ≤ S.characters → P u → Q v → (v : ℕ) × (v ≤ S.characters) × P v × Q v
  same_vote P Q u v e l p q = (u, l, p, subst Q (sym e) q)

  -- two ample sets of votes of kind 2, counted at any boards, have a vote in common
  votes_meet : (i j : ℕ) (P Q : ℕ → Type 0) → AmpleVotes S 2 (history r i) P → AmpleVotes S 2 (history r j) Q → (v : ℕ) × (v ≤ S.characters) × P v × Q v
  votes_meet i j P Q a b =
      let k = ample_by_meet C.lawful two a.0 b.0 a.1 b.1 in
      let x = a.2 k.0 k.1 k.2 in
      let y = b.2 k.0 k.1 k.3 in
      let bx = vote_branch C r legal i k.0 x.0 k.1 x.1 in
      let by = vote_branch C r legal j k.0 y.0 k.1 y.1 in
      same_vote P Q x.0 y.0 (holds_one {a = x.0} {b = y.0} bx by) (branch_bounded S (history r k.0) x.0 bx) x.2 y.2

  -- where a board decides with grade 2, none decides (0, 0)
  not_both : S.depth ≡ Two → (i j : ℕ) (d e : Decision) → decision (plain S) r i ≡ Some d → decision (plain S) r j ≡ Some e → NoneDecided d → e.grade ≡ 2 → ⊥
  not_both t i j d e p q n g =
      let a = none_votes S (history r i) d n (subst (λ (x : Depth). Verdict S x (history r i) d) t (decision_verdict C r legal i d p)) in
      let b = grade_two_votes S (history r j) e g (subst (λ (x : Depth). Verdict S x (history r j) e) t (decision_verdict C r legal j e q)) in
      let k = votes_meet i j _ _ a b.1 in
      k.2 (omega (arith, k.3, b.0)) k.1

  grade_of : (d : Decision) → (d.grade ≡ 1) ⊎ ((d.grade ≡ 2) × (S.depth ≡ Two)) → (d.grade ≡ 1) ⊎ (d.grade ≡ 2)
  grade_of d (inl g) = inl g
  grade_of d (inr g) = inr g.0

  none_or_character : (i j : ℕ) (d e : Decision) → decision (plain S) r i ≡ Some d → decision (plain S) r j ≡ Some e → NoneDecided d → OnCharacter C r e → e.grade ≡ 1
  none_or_character i j d e p q n c = ⊎_elim (λ g. g) (λ g. absurd (not_both g.1 i j d e p q n g.0)) c.1

  pub close : (i j : ℕ) (d e : Decision) → decision (plain S) r i ≡ Some d → decision (plain S) r j ≡ Some e → AtMostOneStep d e
  close i j d e p q = go (decision_starts C r legal i d p) (decision_starts C r legal j e q)
    where
      go : NoneDecided d ⊎ OnCharacter C r d → NoneDecided e ⊎ OnCharacter C r e → AtMostOneStep d e
      go (inl n) (inl m) = both_none d e n m
      go (inl n) (inr b) = inr (inl (inl (n, none_or_character i j d e p q n b)))
      go (inr a) (inl m) = inr (inr (inl (m, none_or_character j i e d q p m a)))
      go (inr a) (inr b) =
          let k = starts_meet C two r r d.value e.value a.2 b.2 in one_character d e (holds_one k.2 k.3) (grade_of d a.1) (grade_of e b.1)
