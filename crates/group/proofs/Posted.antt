-- What the records tell of the words posted. Assumes nothing.
use Rattle.std.proofs.Common.{◌≡◌, ℕ, ◌<◌, Bool, true, false, List, Some, None, Option, is_some, get_or, sym, ap, ◌∙◌, subst, arith}
use Rattle.std.proofs.lemmas.Bool.{false≢true}
use Rattle.quorum.specs.Rules.{Rule, Lawful}
use Rattle.quorum.specs.Truth.{false_unless}
use Rattle.vote.specs.declared.Vote.{Vote}
use Rattle.vote.specs.Search.{given}
use Rattle.vote.proofs.Options.{given_found}
use Rattle.agreement.specs.Runs.{start_of, history, posted}
use Rattle.board.specs.declared.fit.Fit.{Fit}
use Rattle.board.specs.declared.record.Record.{Record}
use Rattle.board.specs.Shown.{record_of, setting_of, method_of}
use Rattle.group.specs.declared.records.Records.{Records}
use Rattle.group.specs.declared.terms.Terms.{Terms}
use Rattle.group.specs.Calls.{Call, run_of, after}
use Rattle.group.specs.Promises.{Opened}
use Rattle.group.specs.Terms.{method_in, start_at, fit_at}
use Rattle.group.proofs.Shown.{begun_at, record_at}
use Rattle.group.proofs.Legal.{word_ranges, run_legal, run_keeps}

module _ {R : Rule} {T : Terms} (law : Lawful R) (accepted : Opened R T) (xs : List Call) where
  -- of a board that has started, by its settings and its record
  pub posted_is : (i c v : ℕ) (b : Bool) → given (start_of (run_of R T xs) i) ≡ true
      → b ≡ (method_of T.method (setting_of R (fit_at T i))).posts (start_at T i) (history (run_of R T xs) i) c v → b ≡ posted (method_in R T) (run_of R T xs) i c v
  unfolding posted
  posted_is i c v b on is =
      let s = given_found _ on in
      let k : start_of (run_of R T xs) i ≡ Some (start_at T i) = s.1 ∙ ap {B = Option ℕ} Some (sym (run_keeps law accepted xs i s.0 s.1)) in
      rw k is

  -- no other kinds and values are posted
  pub kind_unposted : (i c v : ℕ) → i < R.crew → 5 < c → false ≡ posted (method_in R T) (run_of R T xs) i c v
  kind_unposted i c v l h =
      sym (false_unless _ (λ p. let w = word_ranges law accepted (run_of R T xs) (run_legal law accepted xs) i c v l p in omega (arith, h, w.kind_high)))

  pub value_unposted : (i c v : ℕ) → i < R.crew → 8 < v → false ≡ posted (method_in R T) (run_of R T xs) i c v
  value_unposted i c v l h =
      sym (false_unless _ (λ p. let w = word_ranges law accepted (run_of R T xs) (run_legal law accepted xs) i c v l p in omega (arith, h, w.value_high)))

-- a board with these settings tells of its record whether the word is posted
abbrev pub TellsPosted : Fit → Record → ℕ → ℕ → Bool → Type 0
TellsPosted f s c v b = (R : Rule) (h : List Vote) → s ≡ record_of R f h → b ≡ (method_of f.method (setting_of R f)).posts f.start h c v

module _ {R : Rule} {T : Terms} (law : Lawful R) (accepted : Opened R T) (xs : List Call) (o : Records) (shown : o ≡ after R T xs) where
  -- a board that has started has a record
  pub started_there : (i : ℕ) → i < 16 → given (start_of (run_of R T xs) i) ≡ true → get_or o.boards i None ≡ None → ⊥
  unfolding after
  started_there i l on none = false≢true (ap is_some (sym none) ∙ begun_at R T (run_of R T xs) o shown i l ∙ on)

  pub posted_told : (i c v : ℕ) (s : Record) (f : Fit) (b : Bool) → get_or o.boards i None ≡ Some s → f ≡ fit_at T i
      → TellsPosted f s c v b → b ≡ posted (method_in R T) (run_of R T xs) i c v
  unfolding after
  posted_told i c v s f b at is tells =
      let t : TellsPosted (fit_at T i) s c v b = subst (λ (x : Fit). TellsPosted x s c v b) is tells in
      let k = record_at R T (run_of R T xs) o shown i s at in
      posted_is law accepted xs i c v b k.0 (t R (history (run_of R T xs) i) k.1)
