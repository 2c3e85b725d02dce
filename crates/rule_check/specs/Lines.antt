-- What the lines of the input say: a rule that is asked for. Assumes nothing.
use Rattle.std.specs.Prelude.{ℕ, Bool, ◌+◌, cond, ◌&&◌, List, length, drop, Some, None, Option, ◌==◌, nat_lt, slice_index}
use Rattle.numerals.specs.Numerals.{comma, and_then, numbers_in}
use Rattle.quorum.specs.Asked.{Asked, counting, listing}

-- the bytes with a meaning: the letters of the two kinds of rule, a line feed
abbrev pub count_letter : ℕ
count_letter = 99

abbrev pub listed_letter : ℕ
listed_letter = 108

abbrev pub line_feed : ℕ
line_feed = 10

-- a count rule has three numbers: crew, cover, f
abbrev pub count_asked : List ℕ → Option Asked
count_asked vs = cond (length vs == 3) (Some (counting (slice_index vs 0) (slice_index vs 1) (slice_index vs 2))) None

-- a listed rule has crew, cover, how many sets, and just so many sets
abbrev pub listed_asked : List ℕ → Option Asked
listed_asked vs = cond (length vs == 3 + slice_index vs 2) (Some (listing (slice_index vs 0) (slice_index vs 1) (drop 3 vs))) None

abbrev pub asked_by : ℕ → List ℕ → Option Asked
asked_by kind vs = cond (kind == count_letter) (count_asked vs) (cond (kind == listed_letter) (listed_asked vs) None)

-- the first line: a letter, a comma, numbers
abbrev pub asked_in : List ℕ → Option Asked
asked_in line = cond (nat_lt 1 (length line) && slice_index line 1 == comma) (and_then (numbers_in (drop 2 line)) (asked_by (slice_index line 0))) None

abbrev pub is_feed : ℕ → Bool
is_feed b = b == line_feed
