-- What a failure rule means, its four laws, and the strong and the ample sets. Assumes nothing.
use Rattle.std.specs.Prelude.{◌≡◌, ℕ, ◌<◌, Bool, true, not, ◌&&◌, List, length, nat_le}
use Rattle.quorum.specs.Limits.{max_crew}
use Rattle.std.specs.List.{list_all}
use Rattle.quorum.specs.Sets.{member, set_of, rest, Part, in_some}

-- A failure rule: how many boards the crew has, how many sets of the family never hold the whole crew between them (the cover),
-- and the family, the sets of boards that may fail together. The field's terms: a fail-prone system, with the condition Q of its cover.
pub record Rule : Type 0 where
  pub crew : ℕ
  pub cover : ℕ
  pub fails : ℕ → Bool

-- The four laws that each failure rule keeps.
pub record Lawful (R : Rule) : Type 0 where
  -- it may be that nobody fails
  pub nobody_fails : R.fails 0 ≡ true
  -- where a set may fail, each part of it may
  pub parts_fail : (s t : ℕ) → Part s t → R.fails t ≡ true → R.fails s ≡ true
  -- only boards of the crew fail
  pub inside_crew : (s i : ℕ) → R.fails s ≡ true → member i s ≡ true → i < R.crew
  -- no `cover` sets of the family, repeats allowed, hold the whole crew between them
  pub never_all : (ss : List ℕ) → length ss ≡ R.cover → list_all R.fails ss ≡ true → ((i : ℕ) → i < R.crew → in_some i ss ≡ true) → ⊥

-- A strong set is one that the family lacks: whatever fails, it holds a board that does not (the field's term: a set that is no fail-prone set, so with an honest member).
unfoldable pub strong : Rule → ℕ → Bool
strong R s = not (R.fails s)

-- An ample set is one whose rest of the crew may fail together, so that nobody need wait for more (the field's term: a quorum).
-- A crew of more boards than a set can be of has no ample set.
unfoldable pub ample : Rule → ℕ → Bool
ample R s = nat_le R.crew max_crew && R.fails (rest R.crew s)

-- the boards of the crew that pass the test p are a strong set, an ample set
abbrev pub strong_by : Rule → (ℕ → Bool) → Bool
strong_by R p = strong R (set_of R.crew p)

abbrev pub ample_by : Rule → (ℕ → Bool) → Bool
ample_by R p = ample R (set_of R.crew p)
