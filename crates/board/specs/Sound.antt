-- The numbers that a fitted board can have, whatever its rule. Assumes nothing.
use Rattle.std.specs.Prelude.{ℕ, Bool, ◌&&◌}
use Rattle.wire.specs.Fields.{is_within}
use Rattle.wire.specs.Limits.{max_id, max_sender, max_value}

-- characters, group, change, board, starting character
abbrev pub sound_fit : ℕ → ℕ → ℕ → ℕ → ℕ → Bool
sound_fit k g c b s = is_within 1 max_value k && (is_within 1 max_id g && (is_within 1 max_id c && (is_within 0 max_sender b && is_within 1 k s)))
