-- Which calls a line can hold, and that it is then read as the call that it was written from. Assumes nothing.
use Rattle.std.specs.Prelude.{◌≡◌, ℕ, ◌≤◌, List, [], ◌∷◌, ◌++◌, length, All}
use Rattle.lines.specs.Calls.{Call, unreadable, opens, starts_board, carries, forges}
use Rattle.lines.specs.Lines.{line_feed, max_line, call_in}
use Rattle.numerals.specs.Numerals.{max_number}
use Rattle.lines.specs.Texts.{numbers_of, text_of}

-- an opening has one starting character for each board of its crew, and forged bytes end in a line feed
abbrev pub WellFormed : Call → Type 0
WellFormed unreadable = ⊥
WellFormed (opens o) = length o.starts ≡ o.crew
WellFormed (starts_board i) = Unit {0}
WellFormed (carries to from kind value) = Unit {0}
WellFormed (forges to from bytes) = (bs : List ℕ) × (bytes ≡ bs ++ line_feed ∷ [])

-- a call that a line can hold: no number is too large, and there are not too many bytes
pub record Writable (x : Call) : Type 0 where
  pub well_formed : WellFormed x
  pub small : All (λ v. v ≤ max_number) (numbers_of x)
  pub short : length (text_of x) ≤ max_line

-- what a call is written as is read as that call
unfoldable pub EachCallIsReadable : Type 0
EachCallIsReadable = (x : Call) → Writable x → call_in (text_of x) ≡ x
