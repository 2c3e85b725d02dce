-- What is posted or decided stays so, and of each kind but 1 there is one word. Assumes nothing.
use Rattle.std.proofs.Common.{◌≡◌, ℕ, Bool, true, false, cond, eqb, leb, List, ◌++◌, Some, sym, ◌∙◌, ⊎_elim}
use Rattle.std.proofs.lemmas.Bool.{and_parts, and_from, and_right, or_cases, or_left, or_right, cond-false, ne_eqb, not_from_true}
use Rattle.vote.specs.declared.Decision.{Decision}
use Rattle.vote.specs.declared.Vote.{Vote}
use Rattle.vote.specs.History.{seen}
use Rattle.vote.specs.Search.{is}
use Rattle.vote.specs.Setting.{Setting}
use Rattle.agreement.specs.Echo.{echoes, found, verdict, said, echoed, decided, posts, echo}
use Rattle.vote.specs.News.{newly}
use Rattle.vote.proofs.Options.{is_found, is_from, holds_one}
use Rattle.vote.proofs.Memories.{memo_stays, ever_stays}

module _ (S : Setting) where
  pub decision_stays : (g h : List Vote) (d : Decision) → decided S h ≡ Some d → decided S (g ++ h) ≡ Some d
  unfolding decided
  decision_stays g h d p = memo_stays (λ g. verdict S S.depth (seen g)) g h d p

  said_stays : (g h : List Vote) (c v : ℕ) → said S h c ≡ Some v → said S (g ++ h) c ≡ Some v
  unfolding said
  said_stays g h c v p = memo_stays (λ g. found S S.depth c (seen g)) g h v p

  module _ (start : ℕ) where
    pub echo_stays : (g h : List Vote) (v : ℕ) → echoed S start h v ≡ true → echoed S start (g ++ h) v ≡ true
    unfolding echoed
    echo_stays g h v p =
        ⊎_elim (λ e. or_left (eqb v start) _ e)
        (λ e. let k = and_parts (leb v S.characters) _ e in or_right (eqb v start) _ (and_from _ _ k.0 (ever_stays (λ g. echoes S v (seen g)) g h k.1)))
        (or_cases (eqb v start) _ p)

    -- the posted word of a kind but 1 is the one said
    pub word_said : (h : List Vote) (c v : ℕ) → (c ≡ 1 → ⊥) → posts S start h c v ≡ true → said S h c ≡ Some v
    unfolding posts
    word_said h c v ne p = is_found v (said S h c) (sym (cond-false _ _ _ (ne_eqb c 1 ne)) ∙ p)

    pub word_stays : (g h : List Vote) (c v : ℕ) → posts S start h c v ≡ true → posts S start (g ++ h) c v ≡ true
    unfolding posts
    word_stays g h c v p = either (eqb c 1) p
      where
        either : (b : Bool) → cond b (echoed S start h v) (is v (said S h c)) ≡ true → cond b (echoed S start (g ++ h) v) (is v (said S (g ++ h) c)) ≡ true
        either true q = echo_stays g h v q
        either false q = is_from v (said_stays g h c v (is_found v (said S h c) q))

    pub posted_once : (g h : List Vote) (w : Vote) (c v : ℕ) → posts S start h c v ≡ true → newly (echo S) start (g ++ h) w c v ≡ false
    posted_once g h w c v p = and_right _ _ (not_from_true _ (word_stays g h c v p))

    pub one_word : (g h : List Vote) (c u v : ℕ) → (c ≡ 1 → ⊥) → posts S start h c u ≡ true → posts S start (g ++ h) c v ≡ true → u ≡ v
    one_word g h c u v ne p q = holds_one (word_said (g ++ h) c u ne (word_stays g h c u p)) (word_said (g ++ h) c v ne q)
