-- Runs of a crew by any method. A run is the list of its events, the newest first. Assumes nothing.
use Rattle.std.specs.Prelude.{◌≡◌, ℕ, ◌<◌, ◌≤◌, Bool, true, false, cond, ◌&&◌, List, [], ◌∷◌, Some, None, Option, ◌==◌}
use Rattle.quorum.specs.Limits.{max_crew}
use Rattle.quorum.specs.Sets.{member}
use Rattle.quorum.specs.Rules.{Lawful}
use Rattle.vote.specs.declared.Decision.{Decision}
use Rattle.vote.specs.declared.Vote.{Vote}
use Rattle.vote.specs.Search.{or_else, when, given}
use Rattle.vote.specs.Setting.{Setting, Protocol}

-- a board starts with a character; a board counts a vote
pub data Event : Type 0 where
  starts : ℕ → ℕ → Event
  counts : ℕ → Vote → Event

-- ---- what is read off a run
-- the character that board i has started with
unfoldable pub start_of : List Event → ℕ → Option ℕ
start_of [] i = None
start_of (starts j s ∷ r) i = or_else (start_of r i) (when (j == i) s)
start_of (counts j w ∷ r) i = start_of r i

-- the votes that board i has counted, the newest first
unfoldable pub history : List Event → ℕ → List Vote
history [] i = []
history (starts j s ∷ r) i = history r i
history (counts j w ∷ r) i = cond (j == i) (w ∷ history r i) (history r i)

-- a board that has started has posted what its method makes of its starting character and of what it has counted
abbrev pub posts_from : Protocol → Option ℕ → List Vote → ℕ → ℕ → Bool
posts_from M None h c v = false
posts_from M (Some s) h c v = M.posts s h c v

unfoldable pub posted : Protocol → List Event → ℕ → ℕ → ℕ → Bool
posted M r i c v = posts_from M (start_of r i) (history r i) c v

unfoldable pub decision : Protocol → List Event → ℕ → Option Decision
decision M r i = M.decided (history r i)

-- ---- who takes part
-- a rule that keeps its laws, with a crew that sets can be of, and a set of boards listed bad that may fail together
pub record Crew (S : Setting) : Type 0 where
  pub lawful : Lawful S.rule
  pub fits : S.rule.crew ≤ max_crew
  pub listed : ℕ
  pub may_fail : S.rule.fails listed ≡ true

module _ {S : Setting} (M : Protocol) (C : Crew S) where
  -- a board of the crew that is not listed
  abbrev pub Steady : ℕ → Type 0
  Steady i = (i < S.rule.crew) × (member i C.listed ≡ false)

  -- a board of the crew that keeps to the method: each steady one, and a listed one too where the method has listed boards only fall silent
  abbrev pub Honest : ℕ → Type 0
  Honest i = (i < S.rule.crew) × ((M.may_lie && member i C.listed) ≡ false)

  -- ---- which runs there are
  -- An honest board starts once, with a character. An honest board that has started counts a vote; where its sender is honest too, that one has posted it
  -- before. Of any other sender anything may be counted, at each board something else, at any moment.
  abbrev pub MayFollow : Event → List Event → Type 0
  MayFollow (starts i s) r = Honest i × (start_of r i ≡ None) × (1 ≤ s) × (s ≤ S.characters)
  MayFollow (counts j w) r =
      Honest j × (given (start_of r j) ≡ true) × (Honest w.sender → posted M r w.sender w.kind w.value ≡ true)

  abbrev pub Legal : List Event → Type 0
  Legal [] = Unit {0}
  Legal (e ∷ r) = MayFollow e r × Legal r
