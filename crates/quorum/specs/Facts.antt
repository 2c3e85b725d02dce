-- What the laws of a rule give of its strong and ample sets, each statement of one rule and any sets. Assumes nothing.
use Rattle.std.specs.Prelude.{◌≡◌, ℕ, ◌+◌, ◌<◌, ◌≤◌, true, false, List, length}
use Rattle.quorum.specs.Limits.{max_crew}
use Rattle.std.specs.List.{list_all}
use Rattle.quorum.specs.Sets.{member, rest, Part, in_some, in_each}
use Rattle.quorum.specs.Rules.{Rule, strong, ample}

pub record StrongFacts (R : Rule) : Type 0 where
  -- a strong set has a board outside any set of the family
  pub has_a_board_outside : (s b : ℕ) → strong R s ≡ true → R.fails b ≡ true → (i : ℕ) × (member i s ≡ true) × (member i b ≡ false)
  -- more boards keep a set strong
  pub grows : (s t : ℕ) → Part s t → strong R s ≡ true → strong R t ≡ true

pub record AmpleFacts (R : Rule) : Type 0 where
  -- Ample sets and sets of the family, together no more than the cover: some board of the crew is in each of the first and in none of the second.
  -- The next three are what covers of 2 and 3 make of it.
  pub share_a_board : (ss bs : List ℕ) → length ss + length bs ≤ R.cover → list_all (ample R) ss ≡ true → list_all R.fails bs ≡ true
      → (i : ℕ) × (i < R.crew) × (in_each i ss ≡ true) × (in_some i bs ≡ false)
  -- two ample sets share a board
  pub two_meet : 2 ≤ R.cover → (s t : ℕ) → ample R s ≡ true → ample R t ≡ true → (i : ℕ) × (i < R.crew) × (member i s ≡ true) × (member i t ≡ true)
  -- two ample sets share a board outside any set of the family
  pub two_meet_outside : 3 ≤ R.cover → (s t b : ℕ) → ample R s ≡ true → ample R t ≡ true → R.fails b ≡ true
      → (i : ℕ) × (i < R.crew) × (member i s ≡ true) × (member i t ≡ true) × (member i b ≡ false)
  -- what has the part of an ample set outside a set of the family is strong
  pub part_outside_is_strong : 3 ≤ R.cover → (s b t : ℕ) → ample R s ≡ true → R.fails b ≡ true
      → ((i : ℕ) → i < R.crew → member i s ≡ true → member i b ≡ false → member i t ≡ true) → strong R t ≡ true
  -- the rest of a set of the family is ample
  pub rest_is_ample : R.crew ≤ max_crew → (b : ℕ) → R.fails b ≡ true → ample R (rest R.crew b) ≡ true
  -- more boards keep a set ample
  pub grows : (s t : ℕ) → ((i : ℕ) → i < R.crew → member i s ≡ true → member i t ≡ true) → ample R s ≡ true → ample R t ≡ true

-- The same, shut: a contract names these, so that a caller's search does not look into them.
unfoldable pub StrongSetsHold : Rule → Type 0
StrongSetsHold R = StrongFacts R

unfoldable pub AmpleSetsShare : Rule → Type 0
AmpleSetsShare R = AmpleFacts R
