-- What a board of the echo method keeps to, whatever it counts: statements of one setting, any start and any histories. Assumes nothing.
use Rattle.std.specs.Prelude.{◌≡◌, ℕ, ◌+◌, ◌≤◌, true, false, List, [], ◌∷◌, ◌++◌, Some, ◌≢◌, count_ones}
use Rattle.vote.specs.declared.Decision.{Decision}
use Rattle.vote.specs.declared.Depth.{Depth}
use Rattle.vote.specs.declared.Depth.TheVariants.{One, Two}
use Rattle.vote.specs.declared.News.{News}
use Rattle.vote.specs.declared.Vote.{Vote}
use Rattle.vote.specs.Setting.{Setting, grades}
use Rattle.agreement.specs.Echo.{posts, decided, echo}
use Rattle.vote.specs.News.{newly, news_of}
use Rattle.heard.specs.Repeats.{repeats}

-- how many words there are in some news
abbrev pub sizes : List ℕ → ℕ
sizes [] = 0
sizes (s ∷ ss) = count_ones s + sizes ss

abbrev pub words_in : News → ℕ
words_in n = sizes n.kinds

-- the last kind of a depth
abbrev pub last_kind : Depth → ℕ
last_kind One = 3
last_kind Two = 5

pub record EchoFacts (S : Setting) : Type 0 where
  -- a word once posted stays posted, whatever is counted further
  pub word_stays : (start : ℕ) (g h : List Vote) (c v : ℕ) → posts S start h c v ≡ true → posts S start (g ++ h) c v ≡ true
  -- so it is never news again: one word of each kind and value is ever posted
  pub posted_once : (start : ℕ) (g h : List Vote) (w : Vote) (c v : ℕ) → posts S start h c v ≡ true → newly (echo S) start (g ++ h) w c v ≡ false
  -- at most one word of each kind but 1
  pub one_word_of_a_kind : (start : ℕ) (g h : List Vote) (c u v : ℕ) → (c ≢ 1) → posts S start h c u ≡ true → posts S start (g ++ h) c v ≡ true → u ≡ v
  -- a decision never changes
  pub decision_stays : (g h : List Vote) (d : Decision) → decided S h ≡ Some d → decided S (g ++ h) ≡ Some d
  -- a vote that repeats another changes nothing
  pub repeat_changes_nothing : (start : ℕ) (h : List Vote) (w : Vote) → repeats h w ≡ true → ((c v : ℕ) → posts S start (w ∷ h) c v ≡ posts S start h c v) × (decided S (w ∷ h) ≡ decided S h)
  -- the words posted are of the depth's kinds, with values up to the last character
  pub words_in_range : (start : ℕ) (h : List Vote) (c v : ℕ) → start ≤ S.characters → posts S start h c v ≡ true → (1 ≤ c) × (c ≤ last_kind S.depth) × (v ≤ S.characters)
  -- and so are the decisions
  pub decision_in_range : (h : List Vote) (d : Decision) → decided S h ≡ Some d → (d.value ≤ S.characters) × (d.grade ≤ grades S.depth)
  -- one vote makes a board post at most six words
  pub six_words_at_most : (start : ℕ) (h : List Vote) (w : Vote) → words_in (news_of (echo S) start h w) ≤ 6

-- The same, shut: a contract names it, so that a caller's search does not look into it.
unfoldable pub EchoBoardKeeps : Setting → Type 0
EchoBoardKeeps S = EchoFacts S
