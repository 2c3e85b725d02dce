-- A board outside the crew has counted nothing, and has decided nothing. Assumes nothing.
use Rattle.std.proofs.Common.{◌≡◌, ℕ, ◌≤◌, ◌≢◌, true, false, eqb, List, [], ◌∷◌, None, sym, refl, ap, ◌∙◌, subst, arith}
use Rattle.std.proofs.lemmas.Bool.{cond-false, ne_eqb, or_parts}
use Rattle.quorum.specs.Rules.{Rule, Lawful}
use Rattle.vote.specs.declared.Method.{Method}
use Rattle.vote.specs.declared.Method.TheVariants.{Plain, Echo}
use Rattle.vote.specs.History.{memo}
use Rattle.vote.specs.Search.{given}
use Rattle.vote.specs.Setting.{Setting}
use Rattle.agreement.specs.Echo as echo
use Rattle.agreement.specs.Methods.{method_of}
use Rattle.agreement.specs.Plain as plain
use Rattle.agreement.specs.Runs.{Event, starts, counts, start_of, history, decision}
use Rattle.vote.proofs.Options.{given_else_when}
use Rattle.quorum.specs.Truth.{clash}
use Rattle.group.specs.declared.terms.Terms.{Terms}
use Rattle.group.specs.Calls.{Call, run_of}
use Rattle.group.specs.Promises.{Opened, decided_after}
use Rattle.group.specs.Terms.{setting_in}
use Rattle.group.proofs.Legal.{crew, LegalRun, run_legal}

undecided : (m : Method) (S : Setting) → (method_of m S).decided [] ≡ None
unfolding memo plain.decided echo.decided
undecided Plain S = refl
undecided Echo S = refl

module _ {R : Rule} {T : Terms} (law : Lawful R) (accepted : Opened R T) where
  nothing_heard : (r : List Event) → LegalRun law accepted r → (i : ℕ) → R.crew ≤ i → history r i ≡ []
  unfolding history crew
  nothing_heard [] lg i l = refl
  nothing_heard (starts j s ∷ r) lg i l = nothing_heard r lg.1 i l
  nothing_heard (counts j w ∷ r) lg i l =
      let other : j ≢ i = omega (arith, l, lg.0.0.0) in
      cond-false (eqb j i) (w ∷ history r i) (history r i) (ne_eqb j i other) ∙ nothing_heard r lg.1 i l

  pub nothing_decided : (xs : List Call) (i : ℕ) → R.crew ≤ i → decided_after R T xs i ≡ None
  unfolding decision
  nothing_decided xs i l =
      ap (method_of T.method (setting_in R T)).decided (nothing_heard (run_of R T xs) (run_legal law accepted xs) i l) ∙ undecided T.method (setting_in R T)

  -- a board that has not started has counted nothing, and has decided nothing
  unheard_in : (r : List Event) → LegalRun law accepted r → (i : ℕ) → given (start_of r i) ≡ false → history r i ≡ []
  unfolding history start_of crew
  unheard_in [] lg i idle = refl
  unheard_in (starts j s ∷ r) lg i idle = unheard_in r lg.1 i (or_parts (given (start_of r i)) _ (sym (given_else_when (start_of r i) (eqb j i) s) ∙ idle)).0
  unheard_in (counts j w ∷ r) lg i idle =
      let other : j ≢ i = λ e. clash (subst (λ (k : ℕ). given (start_of r k) ≡ true) e lg.0.1) idle in
      cond-false (eqb j i) (w ∷ history r i) (history r i) (ne_eqb j i other) ∙ unheard_in r lg.1 i idle

  pub unheard : (xs : List Call) (i : ℕ) → given (start_of (run_of R T xs) i) ≡ false → history (run_of R T xs) i ≡ []
  unheard xs i idle = unheard_in (run_of R T xs) (run_legal law accepted xs) i idle

  pub idle_undecided : (xs : List Call) (i : ℕ) → given (start_of (run_of R T xs) i) ≡ false → decided_after R T xs i ≡ None
  unfolding decision
  idle_undecided xs i idle = ap (method_of T.method (setting_in R T)).decided (unheard xs i idle) ∙ undecided T.method (setting_in R T)
