-- What each fault of a group tells: its number, and of a board's fault its place and the board. Assumes nothing.
use Rattle.refusal.specs.declared.Refusal.{Refusal}
use Rattle.board.specs.Faults as board
use Rattle.refusal.specs.Told.{told, passed_on}
use Rattle.group.specs.declared.fault.GroupFault.{GroupFault}
use Rattle.group.specs.declared.fault.GroupFault.TheVariants.{Opening, NoGroup, Outside, Listed, Begun, Idle, Unlisted, Unposted, Family, Board}

-- every case; the layer follows from the number
abbrev pub refusal_of : GroupFault → Refusal
refusal_of (Opening e) = board.refusal_of e
refusal_of NoGroup = told 21
refusal_of Outside = told 22
refusal_of Listed = told 23
refusal_of Begun = told 24
refusal_of Idle = told 25
refusal_of Unlisted = told 26
refusal_of Unposted = told 27
refusal_of Family = told 28
refusal_of (Board b e) = passed_on b (board.refusal_of e)
