-- Where the votes and the characters of a run come from: kind 1 is its sender's starting character, kind 2 its branch. Assumes nothing.
use Rattle.std.proofs.Common.{◌≡◌, ℕ, ◌<◌, ◌≤◌, Bool, true, ◌⊎◌, List, Some, Option, sym, refl, ap, ◌∙◌, inl, inr, ⊎_elim, arith}
use Rattle.quorum.proofs.Tested.{ample_by_meet}
use Rattle.vote.specs.declared.Decision.{Decision}
use Rattle.vote.specs.declared.Depth.TheVariants.{Two}
use Rattle.vote.specs.History.{first}
use Rattle.vote.specs.Setting.{Setting}
use Rattle.vote.proofs.Counting.{first_counted}
use Rattle.agreement.specs.Decisions.{NoneDecided}
use Rattle.agreement.specs.Plain.{branch, posts, plain}
use Rattle.agreement.specs.Runs.{Event, start_of, history, decision, Crew, Legal}
use Rattle.agreement.proofs.Running.{posted_found, sends}
use Rattle.agreement.proofs.Steadies.{Ample}
use Rattle.agreement.proofs.Plain.Branches.{branch_sound}
use Rattle.agreement.proofs.Plain.Verdicts.{Verdict, none, taken_over, kept, confirmed, decided_sound}
use Rattle.agreement.proofs.Plain.Postings.{posts_found, plain_grows}

module _ {S : Setting} (C : Crew S) where
  -- the boards of an ample set have started with v
  abbrev pub AmpleStarts : List Event → ℕ → Type 0
  AmpleStarts r v = (p : ℕ → Bool) × Ample S p × ((i : ℕ) → i < S.rule.crew → p i ≡ true → start_of r i ≡ Some v)

  -- a character, that of an ample set of starts, with a grade that there is
  abbrev pub OnCharacter : List Event → Decision → Type 0
  OnCharacter r d = (1 ≤ d.value) × ((d.grade ≡ 1) ⊎ ((d.grade ≡ 2) × (S.depth ≡ Two))) × AmpleStarts r d.value

  module _ (r : List Event) (legal : Legal (plain S) C r) where
    vote_posted : (j c i v : ℕ) → i < S.rule.crew → first (history r j) c i ≡ Some v → (s : ℕ) × (start_of r i ≡ Some s) × (posts S s (history r i) c v ≡ true)
    vote_posted j c i v l e = posted_found (plain S) r i c v (sends (plain S) C (plain_grows S) r legal j c v i (l, refl) (first_counted (history r j) c i v e))

    pub vote_start : (j i v : ℕ) → i < S.rule.crew → first (history r j) 1 i ≡ Some v → start_of r i ≡ Some v
    vote_start j i v l e =
        let k = vote_posted j 1 i v l e in
        ⊎_elim (λ a. k.1 ∙ ap {B = Option ℕ} Some (sym a.1)) (λ a. absurd (omega (arith, a.0))) (posts_found S k.0 (history r i) 1 v k.2)

    pub vote_branch : (j i v : ℕ) → i < S.rule.crew → first (history r j) 2 i ≡ Some v → branch S (history r i) ≡ Some v
    vote_branch j i v l e =
        let k = vote_posted j 2 i v l e in ⊎_elim (λ a. absurd (omega (arith, a.0))) (λ a. a.2) (posts_found S k.0 (history r i) 2 v k.2)

    -- a branch that is a character
    pub branch_starts : (j v : ℕ) → 1 ≤ v → branch S (history r j) ≡ Some v → AmpleStarts r v
    branch_starts j v low e =
        ⊎_elim (λ a. let k = a.2 in (k.0, k.1, λ i l q. let f = k.2 i l q in vote_start j i v l (f.1 ∙ ap {B = Option ℕ} Some f.2)))
        (λ a. absurd (omega (arith, a.0)))
        (branch_sound S (history r j) v e)

    on_character : (j : ℕ) (d : Decision) → Verdict S S.depth (history r j) d → NoneDecided d ⊎ OnCharacter r d
    on_character j d (none n b f) = inl n
    on_character j d (taken_over t l g b k) =
        inr (l, inl g, branch_starts k.0 d.value l (vote_branch j k.0 k.2 k.1 k.3 ∙ ap {B = Option ℕ} Some k.4))
    on_character j d (kept l g b f) = inr (l, inl g, branch_starts j d.value l b)
    on_character j d (confirmed t l g b k) = inr (l, inr (g, t), branch_starts j d.value l b)

    pub decision_verdict : (j : ℕ) (d : Decision) → decision (plain S) r j ≡ Some d → Verdict S S.depth (history r j) d
    unfolding decision
    decision_verdict j d p = decided_sound S (history r j) d p

    pub decision_starts : (j : ℕ) (d : Decision) → decision (plain S) r j ≡ Some d → NoneDecided d ⊎ OnCharacter r d
    decision_starts j d p = on_character j d (decision_verdict j d p)

  -- two characters of ample sets of starts, be it in two runs, have a board in common
  pub starts_meet : 2 ≤ S.rule.cover → (x y : List Event) (u v : ℕ) → AmpleStarts x u → AmpleStarts y v
      → (i : ℕ) × (i < S.rule.crew) × (start_of x i ≡ Some u) × (start_of y i ≡ Some v)
  starts_meet two x y u v a b =
      let k = ample_by_meet C.lawful two a.0 b.0 a.1 b.1 in (k.0, k.1, a.2 k.0 k.1 k.2, b.2 k.0 k.1 k.3)
