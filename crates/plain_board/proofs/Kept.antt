-- The marks of the plain method: what is decided and posted stays, and one word at most is posted at once. Assumes nothing.
use Rattle.std.proofs.Common.{◌≡◌, ℕ, zero, suc, ◌+◌, ◌/◌, ◌%◌, ◌^◌, ◌≤◌, Bool, true, false, cond, ◌&&◌, eqb, List, ◌∷◌, Some, None, Option, sym, refl, ap, ◌∙◌, subst, pow-suc, arith}
use lib.Count.{ones, ones_step}
use Rattle.std.proofs.lemmas.Bool.{false≢true, eq-eqb, eqb-true}
use Rattle.vote.specs.declared.Decision.{Decision}
use Rattle.vote.specs.declared.Depth.{Depth}
use Rattle.vote.specs.declared.Depth.TheVariants.{One, Two}
use Rattle.vote.specs.declared.News.{News}
use Rattle.vote.specs.declared.Vote.{Vote}
use Rattle.vote.specs.Search.{is}
use Rattle.vote.proofs.Options.{is_found}
use Rattle.vote.specs.Setting.{Setting}
use Rattle.agreement.specs.Plain.{branch, branch_posted, posts, decided, plain}
use Rattle.vote.specs.News.{no_news, news_of}
use Rattle.agreement.proofs.Plain.Branches.{branch_bounded, branch_more}
use Rattle.plain_board.specs.Step.{repeats, taken, branch_news}
use Rattle.plain_board.specs.Marks.{words, Marks, PlainMarks}
use Rattle.plain_board.proofs.Memory.{decision_stays}
use Rattle.plain_board.proofs.Graded.{decided_fits}
use Rattle.plain_board.proofs.News.{quiet, fixed_news}

ones_none : ones 0 ≡ 0
unfolding ones
ones_none = refl

pub ones_bit : (b : ℕ) → ones (2 ^ b) ≡ 1
ones_bit zero = ones_step 1 ∙ ap (λ (x : ℕ). 1 + x) ones_none
ones_bit (suc b) =
    let e = pow-suc 2 b in
    let half : 2 ^ suc b / 2 ≡ 2 ^ b = omega arith in
    ones_step (2 ^ suc b) ∙ ap (λ (x : ℕ). 2 ^ suc b % 2 + ones x) half ∙ (let k = ones_bit b in omega arith)

no_words : words no_news ≤ 1
no_words = let e = ones_none in omega arith

branch_words : (d : Depth) (b : ℕ) → words (branch_news d b) ≤ 1
branch_words One b = no_words
branch_words Two b = let e = ones_none in let f = ones_bit b in omega arith

module _ (S : Setting) where
  stays : (h : List Vote) (w : Vote) (d : Decision) → decided S h ≡ Some d → (again : Bool) → decided S (cond again h (w ∷ h)) ≡ Some d
  stays h w d e true = e
  stays h w d e false = decision_stays S w h d e

  -- ---- words that are posted
  posted_branch : (h : List Vote) (d : Depth) (v : ℕ) → is v (branch_posted S d h) ≡ true → (branch S h ≡ Some v) × (d ≡ Two)
  posted_branch h One v t = absurd (false≢true t)
  posted_branch h Two v t = (is_found v (branch S h) t, refl)

  more_posted : (start : ℕ) (h : List Vote) (w : Vote) (c v : ℕ) → posts S start h c v ≡ true → posts S start (w ∷ h) c v ≡ true
  unfolding posts
  more_posted start h w c v t = by_kind (eqb c 1) (eqb c 2) t
    where
      by_kind : (a b : Bool) → cond a (eqb v start) (b && is v (branch_posted S S.depth h)) ≡ true → cond a (eqb v start) (b && is v (branch_posted S S.depth (w ∷ h))) ≡ true
      by_kind true b t = t
      by_kind false true t =
          let k = posted_branch h S.depth v t in
          ap (λ (d : Depth). is v (branch_posted S d (w ∷ h))) k.1 ∙ ap (λ (o : Option ℕ). is v o) (branch_more S w h v k.0) ∙ eq-eqb v v refl
      by_kind false false t = t

  still_posted : (start : ℕ) (h : List Vote) (w : Vote) (c v : ℕ) → posts S start h c v ≡ true → (again : Bool) → posts S start (cond again h (w ∷ h)) c v ≡ true
  still_posted start h w c v t true = t
  still_posted start h w c v t false = more_posted start h w c v t

  low_posted : (start : ℕ) (h : List Vote) (c v : ℕ) → start ≤ S.characters → posts S start h c v ≡ true → v ≤ S.characters
  unfolding posts
  low_posted start h c v low t = by_kind (eqb c 1) (eqb c 2) t
    where
      by_kind : (a b : Bool) → cond a (eqb v start) (b && is v (branch_posted S S.depth h)) ≡ true → v ≤ S.characters
      by_kind true b t = let e = eqb-true v start t in omega arith
      by_kind false true t = branch_bounded S h v (posted_branch h S.depth v t).0
      by_kind false false t = absurd (false≢true t)

  few_words : S.characters ≤ 8 → (start : ℕ) (h : List Vote) (w : Vote) (o p : Option ℕ) → branch S h ≡ o → branch S (w ∷ h) ≡ p → words (news_of (plain S) start h w) ≤ 1
  few_words low start h w (Some b) p e q = subst (λ (m : News). words m ≤ 1) (quiet S start h w (branch_more S w h b e ∙ sym e)) no_words
  few_words low start h w None None e q = subst (λ (m : News). words m ≤ 1) (quiet S start h w (q ∙ sym e)) no_words
  few_words low start h w None (Some b) e q =
      let l = branch_bounded S (w ∷ h) b q in
      subst (λ (m : News). words m ≤ 1) (fixed_news S start h w b (omega arith) e q) (branch_words S.depth b)

  pub marks_hold : Marks S
  unfolding taken
  marks_hold = record {
    decision_stays = λ h w d e. stays h w d e (repeats h w);
    decision_fits = decided_fits S;
    posted_stays = λ start h w c v t. still_posted start h w c v t (repeats h w);
    posted_fits = low_posted;
    one_word_at_most = λ low start h w. few_words low start h w (branch S h) (branch S (w ∷ h)) refl refl;
  }

  pub plain_marks : PlainMarks S
  unfolding PlainMarks
  plain_marks = marks_hold
