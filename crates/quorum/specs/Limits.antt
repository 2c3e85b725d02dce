-- The sizes that this crate allows, each named once. Assumes nothing.
use Rattle.std.specs.Prelude.{ℕ, Bool, ◌&&◌, nat_le}

-- the most boards of a crew
abbrev pub max_crew : ℕ
max_crew = 16

-- the most sets that a listed rule lists
abbrev pub max_listed : ℕ
max_listed = 8

-- the least and the greatest cover that a rule is made with
abbrev pub min_cover : ℕ
min_cover = 2

abbrev pub max_cover : ℕ
max_cover = 3

abbrev pub crew_fits : ℕ → Bool
crew_fits n = nat_le 1 n && nat_le n max_crew

abbrev pub cover_fits : ℕ → Bool
cover_fits c = nat_le min_cover c && nat_le c max_cover
