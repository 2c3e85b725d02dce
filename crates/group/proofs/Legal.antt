-- The run that a list of calls leads to is legal, keeps to the starting characters, and only grows. Assumes nothing.
use Rattle.std.proofs.Common.{◌≡◌, ℕ, ◌<◌, true, false, List, [], ◌∷◌, ◌++◌, Some, Ok, Err, Result, sym, refl, ap, ◌∙◌, subst, ⊎_elim, arith}
use Rattle.std.proofs.lemmas.Bool.{cond_both, eqb-true}
use Rattle.quorum.specs.Rules.{Rule, Lawful}
use Rattle.quorum.specs.Truth.{clash}
use Rattle.vote.specs.Search.{given}
use Rattle.vote.proofs.Options.{holds_none, else_cases, when_found}
use Rattle.agreement.specs.Runs.{Event, starts, counts, start_of, history, posted, Crew, Legal}
use Rattle.agreement.proofs.Agreeing.{bounded}
use Rattle.agreement.proofs.Running.{posted_found, start_fits}
use Rattle.wire.specs.declared.fault.FrameFault.{FrameFault}
use Rattle.wire.specs.declared.word.Word.{Word}
use Rattle.wire.proofs.FrameText.{Ranges, word_reads}
use Rattle.board.specs.declared.fault.BoardFault.{BoardFault}
use Rattle.board.specs.Shown.{repeats}
use Rattle.board.specs.Taking.{vote_of}
use Rattle.board.proofs.Words.{taken_is}
use Rattle.group.specs.declared.terms.Terms.{Terms}
use Rattle.group.specs.Calls.{Call, starting, carrying, forging, with_word, taken_at, frame_by, fault_of, done_by, next, run_of}
use Rattle.group.specs.Promises.{Opened, Honest}
use Rattle.group.specs.Terms.{setting_in, method_in, start_at, fit_at, lies}
use Rattle.group.proofs.Numbers.{numbers}
use Rattle.group.proofs.Faultless.{may_start, may_carry, may_forge}

module _ {R : Rule} {T : Terms} (law : Lawful R) (accepted : Opened R T) where
  -- the crew that takes part
  unfoldable pub crew : Crew (setting_in R T)
  crew = record { lawful = law; fits = accepted.crew_fits; listed = T.listed; may_fail = accepted.listed_may_fail }

  abbrev pub LegalRun : List Event → Type 0
  LegalRun r = Legal (method_in R T) crew r

  -- a posted word is one that a frame can carry
  pub word_ranges : (r : List Event) → LegalRun r → (i c v : ℕ) → i < R.crew → posted (method_in R T) r i c v ≡ true
      → Ranges (record { group = T.group; change = T.change; sender = i; kind = c; value = v })
  unfolding crew
  word_ranges r lg i c v l p =
      let n = numbers T in
      let s = posted_found (method_in R T) r i c v p in
      let b = bounded T.method (setting_in R T) s.0 (history r i) c v (start_fits (method_in R T) crew r lg i s.0 s.1).1 s.2 in
      record {
        group_low = n.group_low;
        group_high = n.group_high;
        change_low = n.change_low;
        change_high = n.change_high;
        sender_high = omega (arith, l, accepted.crew_fits);
        kind_low = b.0;
        kind_high = omega (arith, b.1);
        value_high = omega (arith, b.2, n.characters_high);
      }

  carried_posted : (r : List Event) → LegalRun r → (to from c v : ℕ) → from < R.crew → posted (method_in R T) r from c v ≡ true
      → (w : Word) → taken_at R T to from (frame_by R T from c v) ≡ Ok w → posted (method_in R T) r w.sender w.kind w.value ≡ true
  carried_posted r lg to from c v l p w e =
      let t = taken_is R (fit_at T to) from (frame_by R T from c v) w e in
      let word : Word = record { group = T.group; change = T.change; sender = from; kind = c; value = v } in
      let reads : ◌≡◌ {A = Result Word FrameFault} (Ok word) (Ok w) = sym (word_reads word (word_ranges r lg from c v l p)) ∙ t.0 in
      let same : word ≡ w = cc in
      subst (λ (x : Word). posted (method_in R T) r x.sender x.kind x.value ≡ true) same p

  -- a start has the character that is settled for the board
  abbrev pub Own : Event → Type 0
  Own (starts i s) = s ≡ start_at T i
  Own (counts j w) = Unit {0}

  -- what holds of a run, and still does with each event that a call may add, holds of the run after the call
  module _ (P : List Event → Type 0) (r : List Event) (lg : LegalRun r) (here : P r) (more : (y : Event) → LegalRun (y ∷ r) → Own y → P (y ∷ r)) where
    taken_holds : (j : ℕ) → Honest R T j → given (start_of r j) ≡ true → (t : Result Word BoardFault)
        → ((w : Word) → t ≡ Ok w → Honest R T w.sender → posted (method_in R T) r w.sender w.kind w.value ≡ true) → P (with_word R T r j t)
    unfolding crew
    taken_holds j hj on (Ok w) sent =
        cond_both (repeats T.method (history r j) (vote_of w)) r (counts j (vote_of w) ∷ r) P (λ q. here) (λ q. more (counts j (vote_of w)) ((hj, on, sent w refl), lg) tt)
    taken_holds j hj on (Err e) sent = here

    done_holds : (x : Call) → given (fault_of R T r x) ≡ false → P (done_by R T r x)
    unfolding crew
    done_holds (starting i) e =
        let m = may_start R T r i e in
        let s = (numbers T).start_fits i (omega (arith, m.honest.0, accepted.crew_fits)) in
        more (starts i (start_at T i)) ((m.honest, m.idle, s.0, s.1), lg) refl
    done_holds (carrying to from c v) e =
        let m = may_carry R T r to from c v e in
        taken_holds to m.taker m.begun (taken_at R T to from (frame_by R T from c v)) (λ w q h. carried_posted r lg to from c v m.sender.0 m.word_posted w q)
    done_holds (forging to from xs) e =
        let m = may_forge R T r to from e in
        taken_holds to m.taker m.begun (taken_at R T to from xs) (λ w q h. clash m.liar (ap (lies R T) (sym (taken_is R (fit_at T to) from xs w q).1) ∙ h.1))

    next_holds : (x : Call) → P (next R T r x)
    unfolding next
    next_holds x = cond_both (given (fault_of R T r x)) r (done_by R T r x) P (λ q. here) (λ q. done_holds x q)

  pub run_legal : (xs : List Call) → LegalRun (run_of R T xs)
  unfolding run_of
  run_legal [] = tt
  run_legal (x ∷ xs) = next_holds LegalRun (run_of R T xs) (run_legal xs) (run_legal xs) (λ y lg own. lg) x

  -- ---- the starting characters
  abbrev Keeps : List Event → Type 0
  Keeps r = (i s : ℕ) → start_of r i ≡ Some s → start_at T i ≡ s

  event_keeps : (r : List Event) (y : Event) → Own y → Keeps r → Keeps (y ∷ r)
  unfolding start_of
  event_keeps r (starts i c) own k j s p =
      ⊎_elim (λ e. k j s e) (λ e. let q = when_found _ _ _ e in ap (start_at T) (sym (eqb-true i j q.0)) ∙ sym own ∙ sym q.1) (else_cases (start_of r j) _ s p)
  event_keeps r (counts j w) own k i s p = k i s p

  pub run_keeps : (xs : List Call) → Keeps (run_of R T xs)
  unfolding run_of start_of
  run_keeps [] i s p = holds_none p
  run_keeps (x ∷ xs) i s p = let r = run_of R T xs in next_holds Keeps r (run_legal xs) (run_keeps xs) (λ y lg own. event_keeps r y own (run_keeps xs)) x i s p

  -- ---- runs grow
  abbrev Grown : List Event → List Event → Type 0
  Grown r t = (y : List Event) × (t ≡ y ++ r)

  pub run_grown : (ys xs : List Call) → Grown (run_of R T xs) (run_of R T (ys ++ xs))
  unfolding run_of
  run_grown [] xs = ([], refl)
  run_grown (y ∷ ys) xs =
      let k = run_grown ys xs in
      next_holds (Grown (run_of R T xs)) (run_of R T (ys ++ xs)) (run_legal (ys ++ xs)) k (λ e lg own. (e ∷ k.0, ap (λ (z : List Event). e ∷ z) k.1)) y
