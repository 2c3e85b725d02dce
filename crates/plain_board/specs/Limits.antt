-- The sizes that this crate rests on. Assumes nothing.
use Rattle.std.specs.Prelude.{ℕ}
use Rattle.vote.specs.Limits.{max_characters}

-- the greatest value that a vote bears
abbrev pub max_value : ℕ
max_value = max_characters
