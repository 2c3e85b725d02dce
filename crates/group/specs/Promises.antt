-- What is promised of a group, over every list of calls since an accepted opening, the newest call first. Assumes nothing.
use Rattle.std.specs.Prelude.{◌≡◌, ℕ, ◌<◌, ◌≤◌, true, false, ◌≢◌, ◌⊎◌, List, ◌∷◌, ◌++◌, Some, None, Option, Result, is_ok}
use Rattle.quorum.specs.Limits.{max_crew, max_cover}
use Rattle.quorum.specs.Sets.{member}
use Rattle.quorum.specs.Rules.{Rule}
use Rattle.vote.specs.declared.Decision.{Decision}
use Rattle.vote.specs.History.{counted}
use Rattle.vote.specs.Search.{given}
use Rattle.vote.specs.Setting.{grades}
use Rattle.agreement.specs.Decisions.{NoneDecided, AtMostOneStep}
use Rattle.agreement.specs.Methods.{needed_cover}
use Rattle.agreement.specs.Runs.{start_of, history, posted, decision}
use Rattle.group.specs.declared.fault.GroupFault.{GroupFault}
use Rattle.group.specs.declared.records.Records.{Records}
use Rattle.group.specs.declared.terms.Terms.{Terms}
use Rattle.group.specs.Terms.{method_in, start_at, lies}
use Rattle.group.specs.Calls.{Yield, Call, carrying, run_of, after, fault_of, answered}

module _ (R : Rule) (T : Terms) where
  -- the rule and the terms are those of an accepted opening
  pub record Opened : Type 0 where
    pub crew_fits : R.crew ≤ max_crew
    pub cover_suffices : needed_cover T.method ≤ R.cover
    pub cover_fits : R.cover ≤ max_cover
    pub listed_may_fail : R.fails T.listed ≡ true

  -- ---- the words of the promise
  -- a board of the crew that is not listed
  abbrev pub Steady : ℕ → Type 0
  Steady i = (i < R.crew) × (member i T.listed ≡ false)

  -- a board of the crew that keeps to the method: all in the plain method, the steady ones in the echo method
  abbrev pub Honest : ℕ → Type 0
  Honest i = (i < R.crew) × (lies R T i ≡ false)

  abbrev pub started_after : List Call → ℕ → Option ℕ
  started_after xs i = start_of (run_of R T xs) i

  abbrev pub CountedAfter : List Call → ℕ → ℕ → ℕ → ℕ → Type 0
  CountedAfter xs j c v i = counted (history (run_of R T xs) j) c v i ≡ true

  abbrev pub PostedAfter : List Call → ℕ → ℕ → ℕ → Type 0
  PostedAfter xs i c v = posted (method_in R T) (run_of R T xs) i c v ≡ true

  abbrev pub decided_after : List Call → ℕ → Option Decision
  decided_after xs i = decision (method_in R T) (run_of R T xs) i

  -- some honest board has decided; some honest board has decided on the character u
  abbrev pub Decided : List Call → Type 0
  Decided xs = (i : ℕ) × Honest i × (given (decided_after xs i) ≡ true)

  abbrev pub DecidedOn : List Call → ℕ → Type 0
  DecidedOn xs u = (i : ℕ) × Honest i × ((d : Decision) × (decided_after xs i ≡ Some d) × (d.value ≡ u) × (u ≢ 0))

  -- the span of the honest starting characters: (v, depth) alone if all are v; otherwise (0, 0), and (v, 1) up to (v, depth) for each v among them
  pub record InSpan (d : Decision) : Type 0 where
    pub where_all_are_one : (v : ℕ) → ((i : ℕ) → Honest i → start_at T i ≡ v) → (d.value ≡ v) × (d.grade ≡ grades T.depth)
    pub none_or_one_of_them : NoneDecided d ⊎ ((1 ≤ d.grade) × (d.grade ≤ grades T.depth) × ((i : ℕ) × Honest i × (start_at T i ≡ d.value)))

  -- every steady board has started; each word that a steady board has posted is counted at all steady boards
  abbrev pub AllStarted : List Call → Type 0
  AllStarted xs = (i : ℕ) → Steady i → given (started_after xs i) ≡ true

  abbrev pub AllCounted : List Call → Type 0
  AllCounted xs = (i j c v : ℕ) → Steady i → Steady j → PostedAfter xs i c v → CountedAfter xs j c v i

  -- ---- the promise, after the calls xs
  pub record Promise (xs : List Call) : Type 0 where
    pub decisions_at_most_one_step_apart :
        (i j : ℕ) (d e : Decision) → Honest i → Honest j → decided_after xs i ≡ Some d → decided_after xs j ≡ Some e → AtMostOneStep d e
    pub decisions_in_the_span : (i : ℕ) (d : Decision) → Honest i → decided_after xs i ≡ Some d → InSpan d
    -- whatever further calls ys are made in one way to go on, and zs in another
    pub the_first_decision_binds : Decided xs → (ys zs : List Call) (u v : ℕ) → DecidedOn (ys ++ xs) u → DecidedOn (zs ++ xs) v → u ≡ v
    pub all_counted_all_decided : AllStarted xs → AllCounted xs → (i : ℕ) → Steady i → given (decided_after xs i) ≡ true
    -- further calls can always bring that about
    pub all_can_be_counted : (ys : List Call) × AllStarted (ys ++ xs) × AllCounted (ys ++ xs)
    -- a carry that none of the group's own numbers stands against is taken, so that whatever has been posted can be counted at all honest boards that have started
    pub a_word_that_may_be_carried_is_taken :
        (to from c v : ℕ) → fault_of R T (run_of R T xs) (carrying to from c v) ≡ None → is_ok (answered R T (carrying to from c v) xs) ≡ true

  -- ---- on the records
  -- the calls xs, all since an accepted opening, have led to these records
  pub record Reached (o : Records) (xs : List Call) : Type 0 where
    pub opened : Opened
    pub shown : o ≡ after R T xs

  -- The call x leads from the records o to the records p and answers r: whatever calls have led to o, with x they lead to p, r is the answer that is
  -- defined, and the whole promise holds.
  pub record PlaysAfter (x : Call) (o p : Records) (r : Result Yield GroupFault) (xs : List Call) : Type 0 where
    pub reached : Reached p (x ∷ xs)
    pub answers : r ≡ answered R T x xs
    pub promise : Promise (x ∷ xs)

  unfoldable pub Plays : Call → Records → Records → Result Yield GroupFault → Type 0
  Plays x o p r = (xs : List Call) → Reached o xs → PlaysAfter x o p r xs

  -- r is what board i has decided, whatever calls have led to the records; a board outside the crew decides nothing
  abbrev pub TellsDecided : Records → ℕ → Option Decision → Type 0
  TellsDecided o i r = (xs : List Call) → Reached o xs → (r ≡ decided_after xs i) × (R.crew ≤ i → r ≡ None)
