-- What a record that shows a history says of the words posted and the decision. Assumes nothing.
use Rattle.std.proofs.Common.{◌≡◌, ℕ, zero, suc, ◌<◌, ◌≤◌, Bool, false, ◌&&◌, ◌||◌, eqb, leb, List, Some, None, Option, sym, refl, ap, ◌∙◌, ⊎_elim, arith}
use Rattle.std.proofs.lemmas.Bool.{cond-true, cond-false, eq-eqb, ne_eqb, lt-leb, cases_lt}
use Rattle.quorum.specs.Sets.{member}
use Rattle.quorum.specs.Members.{member_set_of, member_beyond}
use Rattle.vote.specs.declared.Depth.{Depth}
use Rattle.vote.specs.declared.Depth.TheVariants.{One, Two}
use Rattle.vote.specs.declared.Vote.{Vote}
use Rattle.vote.specs.History.{Seen, seen, ever}
use Rattle.vote.specs.Search.{is}
use Rattle.vote.specs.Setting.{Setting}
use Rattle.agreement.specs.Echo.{echoes, found, said, echoed, posts}
use Rattle.vote.proofs.Options.{same_is}
use Rattle.vote.proofs.Memories.{memo_none}
use Rattle.std.specs.Option.{option_eq}
use Rattle.echo_board.specs.declared.board.EchoRecord.{EchoRecord}
use Rattle.echo_board.specs.Records.{record_of}

-- ---- a kind that no test posts
no_test : (S : Setting) (d : Depth) (c : ℕ) → (c ≡ 2 → ⊥) → (c ≡ 3 → ⊥) → (c ≡ 4 → ⊥) → (c ≡ 5 → ⊥) → (x : Seen) → found S d c x ≡ None
unfolding found
no_test S d zero not2 not3 not4 not5 x = refl
no_test S d (suc zero) not2 not3 not4 not5 x = refl
no_test S d (suc (suc zero)) not2 not3 not4 not5 x = absurd (not2 refl)
no_test S d (suc (suc (suc zero))) not2 not3 not4 not5 x = absurd (not3 refl)
no_test S d (suc (suc (suc (suc zero)))) not2 not3 not4 not5 x = absurd (not4 refl)
no_test S d (suc (suc (suc (suc (suc zero))))) not2 not3 not4 not5 x = absurd (not5 refl)
no_test S One (suc (suc (suc (suc (suc (suc c)))))) not2 not3 not4 not5 x = refl
no_test S Two (suc (suc (suc (suc (suc (suc c)))))) not2 not3 not4 not5 x = refl

pub said_none : (S : Setting) (h : List Vote) (c : ℕ) → (c ≡ 2 → ⊥) → (c ≡ 3 → ⊥) → (c ≡ 4 → ⊥) → (c ≡ 5 → ⊥) → None ≡ said S h c
unfolding said
said_none S h c not2 not3 not4 not5 = sym (memo_none (λ g. found S S.depth c (seen g)) (λ g. no_test S S.depth c not2 not3 not4 not5 (seen g)) h)

-- ---- the fields of a record that shows h
module _ (S : Setting) (s : ℕ) (h : List Vote) (o : EchoRecord) (e : o ≡ record_of S s h) where
  -- no value beyond 8 is echoed
  pub echo_posted : (c v : ℕ) → s ≤ 8 → S.characters ≤ 8 → c ≡ 1 → member v o.held.echoes ≡ posts S s h c v
  unfolding record_of posts echoed
  echo_posted c v l k q =
      ap (λ (z : EchoRecord). member v z.held.echoes) e ∙ ⊎_elim (λ (n : v < 9). member_set_of 9 (echoed S s h) v n) (λ (n : 9 ≤ v). member_beyond 9 (echoed S s h) v n ∙ none v n) (cases_lt v 9)
      ∙ sym (cond-true _ _ _ (eq-eqb c 1 q))
    where
      neither : (a b d : Bool) → a ≡ false → b ≡ false → false ≡ (a || (b && d))
      neither a b d p r = rw (p, r)

      none : (v : ℕ) → 9 ≤ v → false ≡ echoed S s h v
      none v n = neither (eqb v s) (leb v S.characters) (ever (λ g. echoes S v (seen g)) h) (ne_eqb v s (omega arith)) (lt-leb v S.characters (omega arith))

pub word_posted : (S : Setting) (s : ℕ) (h : List Vote) (c v : ℕ) (r : Option ℕ) → r ≡ said S h c → (c ≡ 1 → ⊥) → option_eq eqb r (Some v) ≡ posts S s h c v
unfolding posts
word_posted S s h c v r p q = same_is v r ∙ ap (is v) p ∙ sym (cond-false _ _ _ (ne_eqb c 1 q))
