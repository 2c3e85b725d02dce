-- The first line that ends in the bytes. Assumes nothing.
use Rattle.std.specs.Prelude.{◌≡◌, ℕ, ◌+◌, ◌<◌, ◌==◌, false, true, List, length, take, drop, slice_index}

-- the byte that ends a line
abbrev pub line_feed : ℕ
line_feed = 10

-- before the place n no line ends
abbrev pub NoneEnds : List ℕ → ℕ → Type 0
NoneEnds bytes n = (k : ℕ) → k < n → (slice_index bytes k == line_feed) ≡ false

-- the first line ends at the place i: it has the line feed there, and no other, and the rest is what follows
pub record FirstLine (bytes line rest : List ℕ) (i : ℕ) : Type 0 where
  pub inside : i < length bytes
  pub ends : (slice_index bytes i == line_feed) ≡ true
  pub none_before : NoneEnds bytes i
  pub is_line : line ≡ take (i + 1) bytes
  pub is_rest : rest ≡ drop (i + 1) bytes

abbrev pub CutsFirst : List ℕ → List ℕ → List ℕ → Type 0
CutsFirst bytes line rest = (i : ℕ) × FirstLine bytes line rest i
