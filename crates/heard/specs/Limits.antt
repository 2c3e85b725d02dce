-- The votes that the sizes of a vote allow. Assumes nothing.
use Rattle.std.specs.Prelude.{◌<◌, ◌≤◌}
use Rattle.quorum.specs.Limits.{max_crew}
use Rattle.vote.specs.declared.Vote.{Vote}
pub use Rattle.vote.specs.Limits.{max_characters, max_kind, KindUpTo}

-- numbers that a vote can have, whatever the crew, the characters and the depth
abbrev pub InRange : Vote → Type 0
InRange w = (w.sender < max_crew) × KindUpTo max_kind w.kind × (w.value ≤ max_characters)
