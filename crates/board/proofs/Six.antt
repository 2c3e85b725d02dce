-- One vote more makes a board post at most six words, which fit into 114 bytes. Assumes nothing.
use Rattle.std.proofs.Common.{◌≡◌, ℕ, ◌+◌, ◌*◌, ◌/◌, ◌%◌, ◌≤◌, List, length, refl, ap, arith, lit<}
use lib.Count.{ones, ones_cat, ones-ones}
use Rattle.std.specs.List.{sum_by}
use Rattle.std.proofs.lemmas.Nat.{mod_below, div-add-mod'}
use Rattle.std.proofs.lemmas.Bool.{cond_both}
use Rattle.std.proofs.lemmas.List.Sums.{sum_by-le-sum_by}
use Rattle.quorum.specs.Rules.{Rule, Lawful}
use Rattle.vote.specs.declared.Method.{Method}
use Rattle.vote.specs.declared.Method.TheVariants.{Plain, Echo}
use Rattle.vote.specs.declared.Vote.{Vote}
use Rattle.vote.specs.Setting.{Setting}
use Rattle.vote.specs.News.{one_word, news_of}
use Rattle.plain_board.proofs.Kept.{marks_hold, ones_bit}
use Rattle.echo_board.proofs.Facts.{echo_facts}
use Rattle.wire.specs.declared.posted.Posted.{Posted}
use Rattle.wire.specs.Slips.{words_of}
use Rattle.wire.proofs.Counting.{words_summed}
use Rattle.wire.proofs.Slipped.{none_posted_none}
use Rattle.board.specs.declared.fit.Fit.{Fit}
use Rattle.board.specs.Shown.{setting_of, method_of, repeats, answer_of}
use Rattle.board.specs.Started.{posted_of, slip_of}
use Rattle.board.specs.Laws.{SixWords}

fewer : (m : ℕ) → ones (m % 512) ≤ ones m
fewer m =
    let whole : ones (m / 512 * 512 + m % 512) ≡ ones (m / 512) + ones (m % 512) = ones_cat 9 (m / 512) (m % 512) (mod_below m 512 (lit< tt)) in
    omega (arith, whole, ap ones (div-add-mod' m 512))

-- no more words than there are ones in the five sets
words_ones : (p : Posted) → length p.kinds ≡ 5 → length (words_of p) ≤ sum_by ones p.kinds
words_ones p five = rw (words_summed p five) (sum_by-le-sum_by (λ m. ones (m % 512)) ones p.kinds fewer)

module _ (f : Fit) (h : List Vote) (w : Vote) where
  news_six : (m : Method) (S : Setting) → Lawful S.rule → S.characters ≤ 8 → length (words_of (posted_of f (news_of (method_of m S) f.start h w))) ≤ 6
  unfolding news_of
  news_six Plain S lawful low = omega (arith, words_ones (posted_of f (news_of (method_of Plain S) f.start h w)) refl, (marks_hold S).one_word_at_most low f.start h w)
  news_six Echo S lawful low = omega (arith, words_ones (posted_of f (news_of (method_of Echo S) f.start h w)) refl, (echo_facts S lawful).six_words_at_most f.start h w)

  answer_six : (R : Rule) → Lawful R → f.characters ≤ 8 → length (words_of (slip_of f (answer_of R f h w))) * 19 ≤ 114
  unfolding answer_of
  answer_six R lawful low =
      cond_both (repeats f.method h w) _ _ (λ a. length (words_of (slip_of f a)) * 19 ≤ 114)
      (λ _. omega (arith, ap length (none_posted_none f.group f.change f.board)))
      (λ _. omega (arith, news_six f.method (setting_of R f) lawful low))

pub six_words : (R : Rule) (f : Fit) → Lawful R → f.characters ≤ 8 → SixWords R f
six_words R f lawful low h w = answer_six f h w R lawful low

-- the first slip has one word
pub first_fits : (f : Fit) → length (words_of (posted_of f (one_word 1 f.start))) * 19 ≤ 114
first_fits f =
    omega (arith, words_ones (posted_of f (one_word 1 f.start)) refl, ones_bit f.start, none)
  where
    none : ones 0 ≡ 0
    none = ones-ones 0
