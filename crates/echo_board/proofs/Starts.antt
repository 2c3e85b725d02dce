-- A board's record and its words as it starts, and a word as a set of its value. Assumes nothing.
use Rattle.std.proofs.Common.{◌≡◌, ℕ, ◌*◌, ◌%◌, ◌^◌, ◌≤◌, eqb, leb, [], ◌∷◌, Some, None, Option, sym, ap, ◌∙◌, arith}
use mathlib.Core.Bool.{and-true, and-false, or-false}
use Rattle.std.proofs.Math.Bool.{and-not_self}
use Rattle.std.proofs.lemmas.Bool.{ne_eqb}
use Rattle.quorum.proofs.Masks.{set_of_ext}
use Rattle.vote.specs.declared.News.{News}
use Rattle.vote.specs.History.{seen, memo, ever}
use Rattle.vote.specs.Search.{is}
use Rattle.vote.specs.Setting.{Setting}
use Rattle.agreement.specs.Echo.{said, echoed, decided, posts, echo}
use Rattle.vote.specs.News.{values, first_news}
use Rattle.vote.proofs.Seeking.{set_of_none}
use Rattle.heard.specs.declared.counted.Heard.{Heard}
use Rattle.heard.specs.Shown.{heard_of}
use Rattle.heard.proofs.Due.{single}
use Rattle.echo_board.specs.Records.{record_of}
use Rattle.echo_board.specs.Steps.{word_set, fresh}

-- ---- one value as a set
module _ (o : Option ℕ) where
  pub word_none : o ≡ None → 0 ≡ word_set o
  unfolding word_set
  word_none e = sym (set_of_none 9) ∙ set_of_ext 9 _ _ (λ v h. ap (is v) (sym e))

  pub value_held : (s : ℕ) → o ≡ Some s → s ≤ 8 → (1 * 2 ^ s) % 65536 ≡ values (λ v. is v o)
  value_held s e l = single s _ l (λ v. ap (is v) e)

  pub word_held : (s : ℕ) → o ≡ Some s → s ≤ 8 → (1 * 2 ^ s) % 65536 ≡ word_set o
  unfolding word_set
  word_held s e l = value_held s e l

  -- no value is beyond 8
  pub word_beyond : (s : ℕ) → o ≡ Some s → (s ≤ 8 → ⊥) → 0 ≡ word_set o
  unfolding word_set
  word_beyond s e l = sym (set_of_none 9) ∙ set_of_ext 9 _ _ (λ v h. sym (ne_eqb v s (omega arith)) ∙ ap (is v) (sym e))

-- ---- what is found where nothing, or something, was before
pub fresh_none : (b o : Option ℕ) → b ≡ None → word_set o ≡ fresh b o
unfolding fresh word_set
fresh_none b o e = rw e (set_of_ext 9 _ _ (λ v h. sym (and-true (is v o))))

pub fresh_some : (b o : Option ℕ) (u : ℕ) → b ≡ Some u → 0 ≡ fresh b o
unfolding fresh
fresh_some b o u e = rw e (sym (set_of_none 9) ∙ set_of_ext 9 _ _ (λ v h. sym (and-not_self (eqb v u))))

-- ---- the start of a board
pub start_echo : (S : Setting) (s : ℕ) → s ≤ 8 → (1 * 2 ^ s) % 65536 ≡ values (echoed S s [])
unfolding echoed ever
start_echo S s l = single s (echoed S s []) l (λ v. rw (and-false (leb v S.characters)) (or-false (eqb v s)))

pub start_is : (S : Setting) (s : ℕ) (a : ℕ) (y : Heard) → a ≡ values (echoed S s []) → y ≡ heard_of S.rule.crew (seen [])
    → record { heard = y; held = record { echoes = a; second = None; third = None; fourth = None; fifth = None; decision = None } } ≡ record_of S s []
unfolding record_of said decided memo
start_is S s a y p q = rw (p, q)

pub start_news : (S : Setting) (s : ℕ) → s ≤ 8 → ◌≡◌ {A = News} record { kinds = (1 * 2 ^ s) % 65536 ∷ 0 ∷ 0 ∷ 0 ∷ 0 ∷ [] } (first_news (echo S) s)
unfolding first_news posts said memo
start_news S s l = rw (start_echo S s l, set_of_none 9)
