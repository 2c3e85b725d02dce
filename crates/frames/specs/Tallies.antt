-- Counts of pieces, which stop at the largest number of 64 bits. Assumes nothing.
use Rattle.std.specs.Prelude.{ℕ, ◌+◌, ◌-◌, ◌^◌, min, Bool, true, false}
use Rattle.frames.specs.declared.tally.Tally.{Tally}

abbrev pub capped : ℕ → ℕ
capped n = min n (2 ^ 64 - 1)

-- one piece more, which carried a word or did not
abbrev pub noted : Tally → Bool → Tally
noted t true = record { words = capped (t.words + 1); refused = t.refused }
noted t false = record { words = t.words; refused = capped (t.refused + 1) }
