-- What the records tell of a board's decision. Assumes nothing.
use Rattle.std.proofs.Common.{◌≡◌, ℕ, ◌≤◌, List, Some, None, Option, is_some, get_or, sym, ap, ◌∙◌, ⊎_elim, arith}
use Rattle.std.proofs.lemmas.Bool.{cases_lt}
use Rattle.quorum.specs.Rules.{Rule, Lawful}
use Rattle.vote.specs.declared.Decision.{Decision}
use Rattle.agreement.specs.Runs.{history, decision}
use Rattle.board.specs.declared.fit.Fit.{Fit}
use Rattle.board.specs.declared.record.Record.{Record}
use Rattle.board.specs.Shown.{Decides}
use Rattle.group.specs.declared.records.Records.{Records}
use Rattle.group.specs.declared.terms.Terms.{Terms}
use Rattle.group.specs.Calls.{Call, run_of}
use Rattle.group.specs.Promises.{Reached, decided_after}
use Rattle.group.specs.Terms.{fit_at}
use Rattle.group.proofs.Outside.{idle_undecided, nothing_decided}
use Rattle.group.proofs.Played.{shown_run}
use Rattle.group.proofs.Shown.{begun_at, record_at}

module _ {R : Rule} {T : Terms} (law : Lawful R) (o : Records) (i : ℕ) (xs : List Call) (reached : Reached R T o xs) where
  -- by its record
  pub decided_told : (s : Record) (r : Option Decision) → get_or o.boards i None ≡ Some s → ((Q : Rule) (f : Fit) → Decides Q f s r)
      → (r ≡ decided_after R T xs i) × (R.crew ≤ i → r ≡ None)
  unfolding decision
  decided_told s r at tells =
      let told = tells R (fit_at T i) (history (run_of R T xs) i) (record_at R T (run_of R T xs) o (shown_run xs reached) i s at).1 in
      (told, λ l. told ∙ nothing_decided law reached.opened xs i l)

  -- nothing, of a board that has none
  pub none_decided : get_or o.boards i None ≡ None → None ≡ decided_after R T xs i
  none_decided at =
      ⊎_elim
      (λ l. sym (idle_undecided law reached.opened xs i (sym (begun_at R T (run_of R T xs) o (shown_run xs reached) i l) ∙ ap is_some at)))
      (λ m. sym (nothing_decided law reached.opened xs i (omega (arith, m, reached.opened.crew_fits))))
      (cases_lt i 16)
