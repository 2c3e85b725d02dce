-- What counting never undoes, what can be decided and posted, and how much one counted vote posts. Assumes nothing.
use Rattle.std.specs.Prelude.{◌≡◌, ℕ, ◌≤◌, true, List, map, Some, sum, count_ones}
use Rattle.vote.specs.declared.Decision.{Decision}
use Rattle.vote.specs.declared.News.{News}
use Rattle.vote.specs.declared.Vote.{Vote}
use Rattle.vote.specs.Setting.{Setting, grades}
use Rattle.agreement.specs.Plain.{posts, decided, plain}
use Rattle.vote.specs.News.{news_of}
use Rattle.plain_board.specs.Limits.{max_value}
use Rattle.plain_board.specs.Step.{taken}

-- how many words the news hold: each value of each kind is one
abbrev pub words : News → ℕ
words m = sum (map count_ones m.kinds)

pub record Marks (S : Setting) : Type 0 where
  -- a decision, once there, stays
  pub decision_stays : (h : List Vote) (w : Vote) (d : Decision) → decided S h ≡ Some d → decided S (taken h w) ≡ Some d
  -- it is for a character that there is, or for none, with a grade that there is
  pub decision_fits : (h : List Vote) (d : Decision) → decided S h ≡ Some d → (d.value ≤ S.characters) × (d.grade ≤ grades S.depth)
  -- a word, once posted, stays posted
  pub posted_stays : (start : ℕ) (h : List Vote) (w : Vote) (c v : ℕ) → posts S start h c v ≡ true → posts S start (taken h w) c v ≡ true
  -- a word that is posted bears a value that there is
  pub posted_fits : (start : ℕ) (h : List Vote) (c v : ℕ) → start ≤ S.characters → posts S start h c v ≡ true → v ≤ S.characters
  -- one counted vote posts one word at most
  pub one_word_at_most : S.characters ≤ max_value → (start : ℕ) (h : List Vote) (w : Vote) → words (news_of (plain S) start h w) ≤ 1

-- The same, shut: a contract names this, so that a caller's search does not look into it.
unfoldable pub PlainMarks : Setting → Type 0
PlainMarks S = Marks S
