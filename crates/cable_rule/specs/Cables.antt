-- The cable rule: the boards of one of two cables may fail together, and a board on neither never does. Assumes nothing.
use Rattle.std.specs.Prelude.{ℕ, Bool, not, ◌&&◌, ◌||◌, nat_lt}
use Rattle.quorum.specs.Sets.{member, part, in_crew}
use Rattle.quorum.specs.Rules.{Rule}

-- s lies on one cable
abbrev pub on_one : ℕ → ℕ → ℕ → Bool
on_one a b s = part s a || part s b

abbrev pub cable_rule : ℕ → ℕ → ℕ → ℕ → Rule
cable_rule n c a b = record { crew = n; cover = c; fails = on_one a b }

-- the cables have only boards of the crew, and the board k of the crew is on neither
abbrev pub fair : ℕ → ℕ → ℕ → ℕ → Bool
fair n k a b = nat_lt k n && not (member k a) && not (member k b) && in_crew n a && in_crew n b
