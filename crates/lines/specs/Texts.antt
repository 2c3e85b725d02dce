-- How each call is written as a line. Assumes nothing.
use Rattle.std.specs.Prelude.{◌≡◌, ℕ, List, [], ◌∷◌, ◌++◌, length, decimal}
use Rattle.vote.specs.declared.Method.{Method}
use Rattle.vote.specs.declared.Method.TheVariants.{Plain, Echo}
use Rattle.lines.specs.Calls.{Failing, by_count, by_sets, Opening, Call, unreadable, opens, starts_board, carries, forges}
use Rattle.lines.specs.Lines.{line_feed, open_by_count_letter, open_by_sets_letter, start_letter, carry_letter, forge_letter}
use Rattle.numerals.specs.Numerals.{comma}
use Rattle.vote.specs.Conversions.{plain_letter, echo_letter}

abbrev pub letter_of : Method → ℕ
letter_of Plain = plain_letter
letter_of Echo = echo_letter

-- each number in base ten, a comma before it
abbrev pub listed : List ℕ → List ℕ
listed [] = []
listed (v ∷ vs) = comma ∷ (decimal v ++ listed vs)

-- the numbers of an opening, in the order in which they are written: the sets are counted before they are listed
abbrev pub opening_numbers : Opening → Failing → List ℕ
opening_numbers o (by_count f) = o.depth ∷ o.crew ∷ f ∷ o.characters ∷ o.bad ∷ o.starts
opening_numbers o (by_sets ss) = o.depth ∷ o.crew ∷ length ss ∷ o.characters ∷ o.bad ∷ (ss ++ o.starts)

abbrev pub opening_letter : Failing → ℕ
opening_letter (by_count f) = open_by_count_letter
opening_letter (by_sets ss) = open_by_sets_letter

abbrev pub opening_text : Opening → Failing → List ℕ
opening_text o failing = opening_letter failing ∷ comma ∷ letter_of o.method ∷ listed (opening_numbers o failing)

-- the numbers that a call is written with, in their order
abbrev pub numbers_of : Call → List ℕ
numbers_of unreadable = []
numbers_of (opens o) = opening_numbers o o.failing
numbers_of (starts_board i) = i ∷ []
numbers_of (carries to from kind value) = to ∷ from ∷ kind ∷ value ∷ []
numbers_of (forges to from bytes) = to ∷ from ∷ []

-- the line that a call is written as, with its line feed; forged bytes bring their own
abbrev pub text_of : Call → List ℕ
text_of unreadable = []
text_of (opens o) = opening_text o o.failing ++ line_feed ∷ []
text_of (starts_board i) = (start_letter ∷ listed (i ∷ [])) ++ line_feed ∷ []
text_of (carries to from kind value) = (carry_letter ∷ listed (to ∷ from ∷ kind ∷ value ∷ [])) ++ line_feed ∷ []
text_of (forges to from bytes) = (forge_letter ∷ listed (to ∷ from ∷ [])) ++ comma ∷ bytes

-- the bytes are those that a call is written as; of what is unreadable nothing is said
abbrev pub Writes : List ℕ → Call → Type 0
Writes line unreadable = Unit {0}
Writes line (opens o) = line ≡ text_of (opens o)
Writes line (starts_board i) = line ≡ text_of (starts_board i)
Writes line (carries to from kind value) = line ≡ text_of (carries to from kind value)
Writes line (forges to from bytes) = line ≡ text_of (forges to from bytes)
