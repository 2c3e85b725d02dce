-- What stands against a call, by the tests that the code makes on the records. Assumes nothing.
use Rattle.std.proofs.Common.{◌≡◌, ℕ, ◌<◌, Bool, true, false, cond, not, ◌&&◌, ◌||◌, ltb, List, [], ◌∷◌, Some, None, Option, Err, Result, is_some, get_or, sym, refl, ◌∙◌, ap, ap₂, arith}
use Rattle.std.proofs.lemmas.Bool.{and_parts, ltb-true}
use Rattle.quorum.specs.Rules.{Rule, Lawful}
use Rattle.vote.specs.Search.{given}
use Rattle.agreement.specs.Runs.{start_of, posted}
use Rattle.group.specs.declared.fault.GroupFault.{GroupFault}
use Rattle.group.specs.declared.fault.GroupFault.TheVariants.{Outside, Listed, Begun, Idle, Unlisted, Unposted}
use Rattle.group.specs.declared.records.Records.{Records}
use Rattle.group.specs.declared.terms.Terms.{Terms}
use Rattle.group.specs.Calls.{Yield, Call, starting, carrying, forging, first_failed, records_of, with_word, taken_at, told_with, run_of, start_fault, carry_fault, forge_fault}
use Rattle.group.specs.Promises.{Reached, Plays}
use Rattle.group.specs.Steps.{StandsAgainst, Takes}
use Rattle.group.specs.Terms.{method_in, lies}
use Rattle.group.proofs.Played.{shown_run, refused}
use Rattle.group.proofs.Shown.{inside, begun_at}

-- the first of the tests that fails, where the later tests need only be right once the earlier ones pass
four : (a b b' c c' d d' : Bool) (x y z w : GroupFault) → (a ≡ true → b ≡ b') → (a ≡ true → b' ≡ true → c ≡ c') → (a ≡ true → b' ≡ true → c' ≡ true → d ≡ d')
    → cond a (cond b (cond c (cond d None (Some w)) (Some z)) (Some y)) (Some x) ≡ cond a (cond b' (cond c' (cond d' None (Some w)) (Some z)) (Some y)) (Some x)
four false b b' c c' d d' x y z w q r s = refl
four true b false c c' d d' x y z w q r s = rw (q refl)
four true b true c false d d' x y z w q r s = rw (q refl, r refl refl)
four true b true c true d d' x y z w q r s = rw (q refl, r refl refl, s refl refl refl)

-- whether board i has a record
abbrev pub has_record : Records → ℕ → Bool
has_record o i = is_some (get_or o.boards i None)

module _ (R : Rule) (T : Terms) (o : Records) where
  -- what stands against each call, as far as the records and the terms tell
  abbrev pub start_told : ℕ → Option GroupFault
  start_told i = first_failed ((ltb i R.crew, Outside) ∷ (not (lies R T i), Listed) ∷ (not (has_record o i), Begun) ∷ [])

  abbrev pub carry_told : ℕ → ℕ → Bool → Option GroupFault
  carry_told to from sent = first_failed (
      (ltb to R.crew && ltb from R.crew, Outside) ∷ (not (lies R T to || lies R T from), Listed) ∷ (has_record o to && has_record o from, Idle) ∷ (sent, Unposted) ∷ [])

  abbrev pub forge_told : ℕ → ℕ → Option GroupFault
  forge_told to from = first_failed (
      (ltb to R.crew && ltb from R.crew, Outside) ∷ (not (lies R T to), Listed) ∷ (has_record o to, Idle) ∷ (lies R T from, Unlisted) ∷ [])

module _ {R : Rule} (T : Terms) (o : Records) where
  module _ (xs : List Call) (reached : Reached R T o xs) where
    begun_is : (i : ℕ) → i < R.crew → has_record o i ≡ given (start_of (run_of R T xs) i)
    begun_is i l = begun_at R T (run_of R T xs) o (shown_run xs reached) i (omega (arith, l, reached.opened.crew_fits))

    pub carry_stands : (to from c v : ℕ) (sent : Bool) → (from < R.crew → given (start_of (run_of R T xs) from) ≡ true → sent ≡ posted (method_in R T) (run_of R T xs) from c v)
        → carry_told R T o to from sent ≡ carry_fault R T (run_of R T xs) to from c v
    unfolding carry_fault
    carry_stands to from c v sent t =
        four _ _ _ _ _ _ _ _ _ _ _ (λ a. refl)
        (λ a b. let k = and_parts (ltb to R.crew) _ a in ap₂ (λ (a b : Bool). a && b) (begun_is to (ltb-true _ _ k.0)) (begun_is from (ltb-true _ _ k.1)))
        (λ a b e. let k = and_parts (ltb to R.crew) _ a in t (ltb-true _ _ k.1) (and_parts (given (start_of (run_of R T xs) to)) _ e).1)

  pub start_stands : (i : ℕ) → StandsAgainst R T (starting i) o (start_told R T o i)
  unfolding start_fault
  start_stands i xs reached = four _ _ _ _ _ true true _ _ _ Outside (λ a. refl) (λ a b. ap not (begun_is xs reached i (ltb-true _ _ a))) (λ a b e. refl)

  pub start_refused : Lawful R → (i : ℕ) (e : GroupFault) → start_told R T o i ≡ Some e → Plays R T (starting i) o o (Err e)
  start_refused law i e is = refused law (starting i) o e (λ xs reached. sym is ∙ start_stands i xs reached)

  pub forge_stands : (to from : ℕ) (bytes : List ℕ) → StandsAgainst R T (forging to from bytes) o (forge_told R T o to from)
  unfolding forge_fault
  forge_stands to from bytes xs reached =
      four _ _ _ _ _ _ _ _ _ _ _ (λ a. refl) (λ a b. begun_is xs reached to (ltb-true _ _ (and_parts (ltb to R.crew) _ a).0)) (λ a b e. refl)

  pub forge_refused : Lawful R → (to from : ℕ) (bytes : List ℕ) (e : GroupFault) → forge_told R T o to from ≡ Some e → Plays R T (forging to from bytes) o o (Err e)
  forge_refused law to from bytes e is = refused law (forging to from bytes) o e (λ xs reached. sym is ∙ forge_stands to from bytes xs reached)

  -- whatever is told of the word
  pub carry_refused : Lawful R → (to from c v : ℕ) (e : GroupFault) → ((sent : Bool) → carry_told R T o to from sent ≡ Some e) → Plays R T (carrying to from c v) o o (Err e)
  carry_refused law to from c v e is =
      refused law (carrying to from c v) o e (λ xs reached. sym (is (posted (method_in R T) (run_of R T xs) from c v)) ∙ carry_stands xs reached to from c v _ (λ l m. refl))

  -- a board that has a record is one of the sixteen, and has started, so that it takes what comes
  pub takes_there : (to port : ℕ) (bytes : List ℕ) (p : Records) (r : Result Yield GroupFault) → Takes R T to port bytes o p r → true ≡ has_record o to → (xs : List Call) → Reached R T o xs
      → (p ≡ records_of R T (with_word R T (run_of R T xs) to (taken_at R T to port bytes))) × (r ≡ told_with R T (run_of R T xs) to (taken_at R T to port bytes))
  takes_there to port bytes p r takes on xs reached =
      let shown = shown_run xs reached in
      let l = inside R T (run_of R T xs) o shown to (sym on) in
      takes (run_of R T xs) shown l (sym (on ∙ begun_at R T (run_of R T xs) o shown to l))
