-- What each fault of a board tells: its number, and of a frame's fault the place and the board. Assumes nothing.
use Rattle.refusal.specs.declared.Refusal.{Refusal}
use Rattle.refusal.specs.Told.{told, passed_on}
use Rattle.wire.specs.Faults as frame
use Rattle.board.specs.declared.fault.BoardFault.{BoardFault}
use Rattle.board.specs.declared.fault.BoardFault.TheVariants.{Crew, Characters, Depth, Cover, EchoCover, Board, Address, Start, Port, Frame, Elsewhere, Sender, Kind, Value}

-- every case; the layer follows from the number
abbrev pub refusal_of : BoardFault → Refusal
refusal_of Crew = told 1
refusal_of Characters = told 2
refusal_of Depth = told 3
refusal_of Cover = told 3
refusal_of EchoCover = told 6
refusal_of Board = told 7
refusal_of Address = told 8
refusal_of Start = told 9
refusal_of Port = told 10
refusal_of (Frame b f) = passed_on b (frame.refusal_of f)
refusal_of Elsewhere = told 16
refusal_of Sender = told 17
refusal_of Kind = told 18
refusal_of Value = told 19
