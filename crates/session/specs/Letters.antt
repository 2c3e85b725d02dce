-- The letter by which an answer tells its line. Assumes nothing.
use Rattle.std.specs.Prelude.{ℕ, List, codes}
use Rattle.lines.specs.Calls.{Failing, by_count, by_sets, Call, unreadable, opens, starts_board, carries, forges}
use Rattle.session.specs.declared.letter.Letter.{Letter}
use Rattle.session.specs.declared.letter.Letter.TheVariants.{Unreadable, OpenByCount, OpenBySets, Start, Carry, Forge}

abbrev pub opening_letter : Failing → Letter
opening_letter (by_count f) = OpenByCount
opening_letter (by_sets ss) = OpenBySets

abbrev pub letter_of : Call → Letter
letter_of unreadable = Unreadable
letter_of (opens o) = opening_letter o.failing
letter_of (starts_board i) = Start
letter_of (carries to from kind value) = Carry
letter_of (forges to from bytes) = Forge

-- as the line has it, and a question mark where no call can be read
abbrev pub letter_text : Letter → List ℕ
letter_text Unreadable = codes "?"
letter_text OpenByCount = codes "o"
letter_text OpenBySets = codes "g"
letter_text Start = codes "s"
letter_text Carry = codes "c"
letter_text Forge = codes "f"
