-- The sizes of a vote, each named once. Assumes nothing.
use Rattle.std.specs.Prelude.{ℕ, ◌≤◌}

-- the most characters; the values are 0 to these
abbrev pub max_characters : ℕ
max_characters = 8

-- how many values there are
abbrev pub all_values : ℕ
all_values = 9

-- the kinds are 1 to this
abbrev pub max_kind : ℕ
max_kind = 5

-- c is a kind, of which there are those from 1 to the last
abbrev pub KindUpTo : ℕ → ℕ → Type 0
KindUpTo last c = (1 ≤ c) × (c ≤ last)
