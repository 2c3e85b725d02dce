-- What a frame line does to the board, what is answered to it, and which frames stand in the buffer. Assumes nothing.
use Rattle.std.specs.Prelude.{◌≡◌, ℕ, List, length, Some, None, Ok, Err, Option, Result}
use Rattle.quorum.specs.Rules.{Rule}
use Rattle.quorum.specs.Counting.{count_rule}
use Rattle.quorum.specs.declared.count.CountRule.{CountRule}
use Rattle.wire.specs.declared.posted.Posted.{Posted}
use Rattle.wire.specs.declared.word.Word.{Word}
use Rattle.wire.specs.Slips.{words_of, frames_of}
use Rattle.wire.specs.Writes.{zero_filled}
use Rattle.board.specs.declared.answer.Taken.{Taken}
use Rattle.board.specs.declared.fault.BoardFault.{BoardFault}
use Rattle.board.specs.declared.fit.Fit.{Fit}
use Rattle.board.specs.declared.record.Record.{Record}
use Rattle.board.specs.Faults.{refusal_of}
use Rattle.board.specs.Started.{Accepts}
use Rattle.board.specs.Taking.{word_taken}
use Rattle.board_bench.specs.declared.answer.Answer.{Answer}
use Rattle.board_bench.specs.declared.answer.Answer.TheVariants.{Unreadable, Refused, Taken as WasTaken}
use Rattle.board_bench.specs.Saying.{said_in}

-- a count rule as it is meant
abbrev pub meant : CountRule → Rule
meant x = count_rule x.crew x.cover x.f

-- R and f are the board's, o and p its record before and after; a, n and buf are what is answered, how many bytes are frames, and the buffer
module _ (R : Rule) (f : Fit) (o p : Record) (a : Answer) (n : ℕ) (buf : List ℕ) where
  -- nothing is counted and nothing posted
  abbrev pub Nothing : Answer → Type 0
  Nothing told = (a ≡ told) × (p ≡ o) × (n ≡ 0)

  -- what is posted stands in the buffer
  abbrev pub Posts : ℕ → List ℕ → Type 0
  Posts port xs = (how : Taken) × (slip : Posted) × Accepts R f port xs o p how slip × (a ≡ WasTaken how (length (words_of slip))) × (n ≡ length (frames_of slip)) × (buf ≡ zero_filled (frames_of slip) 855)

  abbrev pub ByWord : ℕ → List ℕ → Result Word BoardFault → Type 0
  ByWord port xs (Ok w) = Posts port xs
  ByWord port xs (Err e) = Nothing (Refused (refusal_of e))

  abbrev pub BySaid : Option (ℕ × List ℕ) → Type 0
  BySaid None = Nothing Unreadable
  BySaid (Some s) = ByWord s.0 s.1 (word_taken R f s.0 s.1)

  abbrev pub Turned : List ℕ → Type 0
  Turned line = BySaid (said_in line)
