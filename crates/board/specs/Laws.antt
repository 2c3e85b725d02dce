-- What a started board keeps to, whatever it counts. Assumes nothing.
use Rattle.std.specs.Prelude.{◌≡◌, ℕ, ◌*◌, ◌≤◌, true, List, length, Some, ◌≢◌}
use Rattle.quorum.specs.Rules.{Rule}
use Rattle.vote.specs.declared.Decision.{Decision}
use Rattle.vote.specs.declared.Method.{Method}
use Rattle.vote.specs.declared.Vote.{Vote}
use Rattle.vote.specs.Setting.{Setting}
use Rattle.wire.specs.Slips.{words_of}
use Rattle.board.specs.declared.fit.Fit.{Fit}
use Rattle.board.specs.Shown.{setting_of, method_of, with_vote, answer_of}
use Rattle.board.specs.Started.{slip_of}

-- of a method, a setting and a starting character, over every history and vote
pub record MethodFacts (m : Method) (S : Setting) (start : ℕ) : Type 0 where
  -- a decision, once there, stays
  pub decision_stays : (h : List Vote) (w : Vote) (d : Decision) → (method_of m S).decided h ≡ Some d → (method_of m S).decided (with_vote m h w) ≡ Some d
  -- a word, once posted, stays posted, so it is never posted again
  pub word_stays : (h : List Vote) (w : Vote) (c v : ℕ) → (method_of m S).posts start h c v ≡ true → (method_of m S).posts start (with_vote m h w) c v ≡ true
  -- at most one word of each kind but 1 is ever posted
  pub one_word_of_a_kind : (h : List Vote) (c u v : ℕ) → (c ≢ 1) → (method_of m S).posts start h c u ≡ true → (method_of m S).posts start h c v ≡ true → u ≡ v

-- one vote more posts at most six words, so a buffer of 114 bytes always takes the slip
abbrev pub SixWords : Rule → Fit → Type 0
SixWords R f = (h : List Vote) (w : Vote) → length (words_of (slip_of f (answer_of R f h w))) * 19 ≤ 114

-- shut: a contract names it, so that a caller's search does not look into it
unfoldable pub BoardKeeps : Rule → Fit → Type 0
BoardKeeps R f = MethodFacts f.method (setting_of R f) f.start × SixWords R f
