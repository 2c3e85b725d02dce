-- The numbers that the terms of a group can have, whatever its rule. Assumes nothing.
use Rattle.std.specs.Prelude.{ℕ, Bool, ◌&&◌, List, length, ◌==◌}
use Rattle.std.specs.List.{list_all}
use Rattle.wire.specs.Fields.{is_within}
use Rattle.wire.specs.Limits.{max_id, max_value}

-- every number of the list is a character from 1 to k
abbrev pub all_characters : ℕ → List ℕ → Bool
all_characters k ss = list_all (is_within 1 k) ss

-- characters, group, change, and the starting characters of sixteen boards
unfoldable pub sound_terms : ℕ → ℕ → ℕ → List ℕ → Bool
sound_terms k g c ss = is_within 1 max_value k && (is_within 1 max_id g && (is_within 1 max_id c && (length ss == 16 && all_characters k ss)))
