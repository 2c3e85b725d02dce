-- In a run, decisions are in the span of the characters that its boards have started with. Assumes nothing.
use Rattle.std.proofs.Common.{◌≡◌, ℕ, ◌≤◌, ◌⊎◌, List, Some, sym, refl, ap, ◌∙◌, inl, inr, ⊎_elim, arith}
use Rattle.quorum.proofs.Tested.{ample_by_meet}
use Rattle.vote.specs.declared.Decision.{Decision}
use Rattle.vote.specs.declared.Depth.{Depth}
use Rattle.vote.specs.declared.Depth.TheVariants.{One, Two}
use Rattle.vote.specs.declared.Vote.{Vote}
use Rattle.vote.specs.Setting.{Setting, grades}
use Rattle.agreement.specs.Plain.{branch, plain}
use Rattle.agreement.specs.Promises.{InSpan, StartedWith}
use Rattle.agreement.specs.Runs.{Event, start_of, history, decision, Crew, Honest, Legal}
use Rattle.agreement.proofs.Running.{start_fits}
use Rattle.agreement.proofs.Plain.Votes.{SomeVote, AmpleVotes}
use Rattle.agreement.proofs.Plain.Branches.{Branch, branch_sound}
use Rattle.agreement.proofs.Plain.Verdicts.{Verdict, none, taken_over, kept, confirmed}
use Rattle.agreement.proofs.Plain.Sources.{OnCharacter, vote_start, vote_branch, decision_verdict, decision_starts, starts_meet}

grades_one : (p : Depth) → (p ≡ Two → ⊥) → 1 ≡ grades p
grades_one One f = refl
grades_one Two f = absurd (f refl)

grade_fits : (p : Depth) (g : ℕ) → (g ≡ 1) ⊎ ((g ≡ 2) × (p ≡ Two)) → (1 ≤ g) × (g ≤ grades p)
grade_fits One g (inl e) = (omega arith, omega arith)
grade_fits Two g (inl e) = (omega arith, omega arith)
grade_fits p g (inr e) = (omega (arith, e.0), omega (arith, e.0, ap grades e.1))

module _ {S : Setting} (two : 2 ≤ S.rule.cover) (C : Crew S) where
  an_ample_vote : (c : ℕ) (h : List Vote) (P : ℕ → Type 0) → AmpleVotes S c h P → SomeVote S c h P
  an_ample_vote c h P a =
      let k = ample_by_meet C.lawful two a.0 a.0 a.1 a.1 in
      let x = a.2 k.0 k.1 k.2 in
      (k.0, k.1, x.0, x.1, x.2)

  module _ (r : List Event) (legal : Legal (plain S) C r) where
    -- ---- where all that have started did so with v
    module _ (v : ℕ) (all : (i s : ℕ) → Honest (plain S) C i → start_of r i ≡ Some s → s ≡ v) where
      -- each vote of kind 1 bears v, which is a character
      all_votes : (j : ℕ) (P : ℕ → Type 0) (k : SomeVote S 1 (history r j) P) → (k.2 ≡ v) × (1 ≤ v) × (v ≤ S.characters)
      all_votes j P k =
          let e = vote_start C r legal j k.0 k.2 k.1 k.3 in
          let f = start_fits (plain S) C r legal k.0 k.2 e in
          let z = all k.0 k.2 (k.1, refl) e in
          (z, omega (arith, z, f.0), omega (arith, z, f.1))

      all_branches : (j b : ℕ) → branch S (history r j) ≡ Some b → (b ≡ v) × (1 ≤ v)
      all_branches j b e = go (branch_sound S (history r j) b e)
        where
          go : Branch S (history r j) b → (b ≡ v) × (1 ≤ v)
          go (inl a) = let k = an_ample_vote 1 (history r j) _ a.2 in let z = all_votes j _ k in (sym k.4 ∙ z.0, z.1)
          go (inr a) =
              let z = all_votes j _ (an_ample_vote 1 (history r j) _ a.1) in
              let k = a.2 v z.1 z.2 in
              absurd (k.4 (all_votes j _ k).0)

      all_decisions : (j : ℕ) (d : Decision) → Verdict S S.depth (history r j) d → (d.value ≡ v) × (d.grade ≡ grades S.depth)
      all_decisions j d (none n b f) = let z = all_branches j 0 b in absurd (omega (arith, z.0, z.1))
      all_decisions j d (taken_over t l g b k) = let z = all_branches j 0 b in absurd (omega (arith, z.0, z.1))
      all_decisions j d (kept l g b f) =
          let z = (all_branches j d.value b).0 in
          (z, g ∙ grades_one S.depth (λ t. let k = f t in k.4 ((all_branches k.0 k.2 (vote_branch C r legal j k.0 k.2 k.1 k.3)).0 ∙ sym z)))
      all_decisions j d (confirmed t l g b k) = ((all_branches j d.value b).0, g ∙ sym (ap grades t))

    pub in_span : (j : ℕ) (d : Decision) → decision (plain S) r j ≡ Some d → InSpan (plain S) C (StartedWith r) d
    in_span j d p = record {
      where_all_are_one = λ v all. all_decisions v all j d (decision_verdict C r legal j d p);
      none_or_one_of_them = ⊎_elim (λ n. inl n) (λ c. inr (one_of_them c)) (decision_starts C r legal j d p);
    }
      where
        one_of_them : OnCharacter C r d → (1 ≤ d.grade) × (d.grade ≤ grades S.depth) × ((i : ℕ) × Honest (plain S) C i × StartedWith r i d.value)
        one_of_them c =
            let f = grade_fits S.depth d.grade c.1 in
            let k = starts_meet C two r r d.value d.value c.2 c.2 in
            (f.0, f.1, (k.0, (k.1, refl), k.2))
