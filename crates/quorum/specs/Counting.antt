-- The count rule: any f boards of the crew may fail together. Assumes nothing.
use Rattle.std.specs.Prelude.{ℕ, Bool, ◌&&◌, count_ones, nat_le}
use Rattle.quorum.specs.Sets.{in_crew}
use Rattle.quorum.specs.Rules.{Rule}

-- s is a set of at most f boards, all of a crew of n
abbrev pub few : ℕ → ℕ → ℕ → Bool
few n f s = nat_le (count_ones s) f && in_crew n s

abbrev pub count_rule : ℕ → ℕ → ℕ → Rule
count_rule n c f = record { crew = n; cover = c; fails = few n f }
