-- A vote of another kind than 1 makes no echo due that was not before. Assumes nothing but that nobody may fail.
use Rattle.std.proofs.Common.{◌≡◌, ℕ, suc, Bool, true, false, not, ◌&&◌, ◌||◌, eqb, leb, List, [], ◌∷◌, Option, sym, ap, ◌∙◌, ap₂, arith}
use mathlib.Core.Path.{fun_ext}
use mathlib.Core.Bool.{and-false, or-false}
use Rattle.std.proofs.lemmas.Bool.{or_right, ne_eqb, not_from_true}
use Rattle.quorum.specs.Rules.{strong, strong_by}
use Rattle.quorum.specs.Truth.{clash, false_unless}
use Rattle.vote.specs.declared.Vote.{Vote}
use Rattle.vote.specs.History.{seen, counted, first, ever}
use Rattle.vote.specs.Search.{all_below}
use Rattle.vote.specs.Setting.{Setting}
use Rattle.agreement.specs.Echo.{other, echoes, parted, echoed}
use Rattle.vote.proofs.Counting.{first_other}
use Rattle.echo_board.proofs.Once.{or_same}
use Rattle.vote.proofs.Seeking.{set_of_none, all_found}

module _ (S : Setting) (nobody : S.rule.fails 0 ≡ true) where
  -- no set of senders is strong before anything is counted
  empty_weak : strong_by S.rule (λ i. false) ≡ false
  unfolding strong
  empty_weak = ap (λ (s : ℕ). not (S.rule.fails s)) (set_of_none S.rule.crew) ∙ not_from_true _ nobody

  pub at_first : (v : ℕ) → strong_by S.rule (counted [] 1 v) ≡ false
  unfolding counted
  at_first v = empty_weak

  never_parted : parted S (seen []) ≡ false
  unfolding parted first
  never_parted = false_unless _ (λ e. clash (all_found (suc S.characters) _ e 0 (omega arith)) empty_weak)

  none_due : (v : ℕ) → echoes S v (seen []) ≡ false
  unfolding echoes
  none_due v = rw (at_first v, never_parted) (and-false (eqb v 0))

  -- an echo that is due was due as it was last looked at
  pub due_before : (h : List Vote) (v : ℕ) → echoes S v (seen h) ≡ true → ever (λ g. echoes S v (seen g)) h ≡ true
  unfolding ever
  due_before [] v e = clash e (none_due v)
  due_before (u ∷ h) v e = or_right (ever (λ g. echoes S v (seen g)) h) _ e

  module _ (h : List Vote) (w : Vote) (ne : w.kind ≡ 1 → ⊥) where
    echo_same : (v : ℕ) → counted (w ∷ h) 1 v ≡ counted h 1 v
    unfolding counted
    echo_same v = fun_ext (λ i. rw (ne_eqb w.kind 1 ne) (or-false (counted h 1 v i)))

    due_same : (v : ℕ) → echoes S v (seen (w ∷ h)) ≡ echoes S v (seen h)
    unfolding echoes parted
    due_same v =
        ap₂ (λ (p : ℕ → Bool) (f : ℕ → Option ℕ). strong_by S.rule p || (eqb v 0 && all_below (suc S.characters) (λ u. strong_by S.rule (λ i. other u (f i)))))
        (echo_same v) (first_other w h 1 ne)

    pub echoed_same : (start v : ℕ) → echoed S start (w ∷ h) v ≡ echoed S start h v
    unfolding echoed ever
    echoed_same start v =
        ap (λ (b : Bool). eqb v start || (leb v S.characters && b)) (or_same (ever (λ g. echoes S v (seen g)) h) _ (λ e. due_before h v (sym (due_same v) ∙ e)))
