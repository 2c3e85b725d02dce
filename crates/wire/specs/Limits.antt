-- The largest number of each field of a frame, the bytes between fields, and the longest frame. Assumes nothing.
use Rattle.std.specs.Prelude.{ℕ, ◌≤◌}

-- of a group and of a change
abbrev pub max_id : ℕ
max_id = 65535

abbrev pub max_sender : ℕ
max_sender = 15

abbrev pub max_kind : ℕ
max_kind = 5

abbrev pub IsKind : ℕ → Type 0
IsKind k = (1 ≤ k) × (k ≤ max_kind)

abbrev pub max_value : ℕ
max_value = 8

abbrev pub frame_max : ℕ
frame_max = 19

-- of all frames of a slip: five kinds of nine values each
abbrev pub slip_max : ℕ
slip_max = 855

abbrev pub comma : ℕ
comma = 44

abbrev pub line_feed : ℕ
line_feed = 10
