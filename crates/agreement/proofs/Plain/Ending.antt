-- Where all steady boards have started and all that they have posted is counted, each of them has decided. Assumes nothing.
use Rattle.std.proofs.Common.{◌≡◌, ℕ, true, List, Some, None, Option, refl}
use Rattle.std.proofs.lemmas.Bool.{false≢true}
use Rattle.quorum.specs.Rules.{ample_by}
use Rattle.vote.specs.declared.Depth.{Depth}
use Rattle.vote.specs.declared.Depth.TheVariants.{One, Two}
use Rattle.vote.specs.declared.Vote.{Vote}
use Rattle.vote.specs.History.{counted, seen, speaks}
use Rattle.vote.specs.Search.{given, when}
use Rattle.vote.specs.Setting.{Setting, decision_on}
use Rattle.vote.proofs.Options.{given_found, else_right, when_from}
use Rattle.vote.proofs.Counting.{counted_first}
use Rattle.agreement.specs.Plain.{branch_found, branch, compared, decision_found, decided, plain}
use Rattle.agreement.specs.Promises.{SteadyStarted, SteadyCounted}
use Rattle.agreement.specs.Runs.{Event, start_of, history, posted, decision, Crew, Steady}
use Rattle.agreement.proofs.Remembering.{memo_complete}
use Rattle.agreement.proofs.Running.{posted_from}
use Rattle.agreement.proofs.Steadies.{Ample, steady_ample}
use Rattle.agreement.proofs.Plain.Postings.{posts_start, posts_branch}

-- ---- one board that has counted something
module _ (S : Setting) (h : List Vote) (c v i : ℕ) (one : counted h c v i ≡ true) where
  branch_given : Ample S (speaks (seen h) 1) → given (branch S h) ≡ true
  unfolding branch branch_found
  branch_given a = memo_complete (branch_found S) h c v i one (rw a (else_right _ (Some 0) refl))

  found_given : (p : Depth) → given (branch S h) ≡ true → (p ≡ Two → Ample S (speaks (seen h) 2)) → given (decision_found S p h) ≡ true
  unfolding decision_found
  found_given One b f = go (branch S h) b
    where
      go : (o : Option ℕ) → given o ≡ true → given (elim o [ None ↦ None | Some b ↦ Some (decision_on 1 b) ]) ≡ true
      go None q = absurd (false≢true q)
      go (Some b) q = refl
  found_given Two b f = go (branch S h) b
    where
      go : (o : Option ℕ) → given o ≡ true → given (elim o [ None ↦ None | Some b ↦ when (ample_by S.rule (speaks (seen h) 2)) (compared S b (seen h)) ]) ≡ true
      go None q = absurd (false≢true q)
      go (Some b) q = when_from _ _ (f refl)

  decided_given : given (branch S h) ≡ true → (S.depth ≡ Two → Ample S (speaks (seen h) 2)) → given (decided S h) ≡ true
  unfolding decided
  decided_given b f = memo_complete (decision_found S S.depth) h c v i one (found_given S.depth b f)

module _ {S : Setting} (C : Crew S) (r : List Event) (started : SteadyStarted (plain S) C r) (delivered : SteadyCounted (plain S) C r) where
  -- a kind that every steady board has posted
  ample_kind : (c : ℕ) → ((i : ℕ) → Steady (plain S) C i → (v : ℕ) × (posted (plain S) r i c v ≡ true)) → (j : ℕ) → Steady (plain S) C j
      → Ample S (speaks (seen (history r j)) c)
  ample_kind c f j sj =
      steady_ample (plain S) C _ (λ i si. let k = f i si in counted_first (history r j) c k.0 i (delivered i j c k.0 si sj k.1))

  start_posted : (i : ℕ) → Steady (plain S) C i → (v : ℕ) × (posted (plain S) r i 1 v ≡ true)
  start_posted i si = let k = given_found (start_of r i) (started i si) in (k.0, posted_from (plain S) r i 1 k.0 k.0 k.1 (posts_start S k.0 (history r i)))

  -- each steady board has counted its own start
  own_start : (i : ℕ) → Steady (plain S) C i → (v : ℕ) × (counted (history r i) 1 v i ≡ true)
  own_start i si = let k = start_posted i si in (k.0, delivered i i 1 k.0 si si k.1)

  branch_fixed : (i : ℕ) → Steady (plain S) C i → given (branch S (history r i)) ≡ true
  branch_fixed i si = let k = own_start i si in branch_given S (history r i) 1 k.0 i k.1 (ample_kind 1 start_posted i si)

  branch_is_posted : S.depth ≡ Two → (i : ℕ) → Steady (plain S) C i → (v : ℕ) × (posted (plain S) r i 2 v ≡ true)
  branch_is_posted t i si =
      let k = given_found (start_of r i) (started i si) in
      let b = given_found (branch S (history r i)) (branch_fixed i si) in
      (b.0, posted_from (plain S) r i 2 b.0 k.0 k.1 (posts_branch S k.0 (history r i) b.0 t b.1))

  pub ends : (i : ℕ) → Steady (plain S) C i → given (decision (plain S) r i) ≡ true
  unfolding decision
  ends i si =
      let k = own_start i si in decided_given S (history r i) 1 k.0 i k.1 (branch_fixed i si) (λ t. ample_kind 2 (branch_is_posted t) i si)
