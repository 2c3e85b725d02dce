-- The first line of bytes, and what follows it. Assumes nothing.
use Rattle.std.specs.Prelude.{ℕ, ◌+◌, cond, ◌==◌, List, [], length, take, drop, position, Some, None, Option}

abbrev pub line_feed : ℕ
line_feed = 10

-- a line holds the line feed that ends it; where there is none, all is one line
abbrev pub cut_behind : List ℕ → Option ℕ → List ℕ × List ℕ
cut_behind bs (Some i) = (take (i + 1) bs, drop (i + 1) bs)
cut_behind bs None = (bs, [])

-- no bytes are no line
abbrev pub first_line : List ℕ → Option (List ℕ × List ℕ)
first_line bs = cond (length bs == 0) None (Some (cut_behind bs (position (λ b. b == line_feed) bs)))
