-- A line that says a port and a frame is answered by what the board makes of the frame. Assumes nothing.
use Rattle.std.proofs.Common.{◌≡◌, ℕ, List, length, Some, Ok, Err, Option, Result, sym, subst}
use Rattle.quorum.specs.Rules.{Rule}
use Rattle.wire.specs.declared.posted.Posted.{Posted}
use Rattle.wire.specs.declared.word.Word.{Word}
use Rattle.wire.specs.Slips.{words_of, frames_of}
use Rattle.wire.specs.Writes.{zero_filled}
use Rattle.board.specs.declared.answer.Taken.{Taken}
use Rattle.board.specs.declared.fault.BoardFault.{BoardFault}
use Rattle.board.specs.declared.fit.Fit.{Fit}
use Rattle.board.specs.declared.record.Record.{Record}
use Rattle.board.specs.Faults.{refusal_of}
use Rattle.board.specs.Started.{Accepts}
use Rattle.board.specs.Taking.{word_taken}
use Rattle.board_bench.specs.declared.answer.Answer.{Answer}
use Rattle.board_bench.specs.declared.answer.Answer.TheVariants.{Refused, Taken as WasTaken}
use Rattle.board_bench.specs.Saying.{said_in}
use Rattle.board_bench.specs.Turns.{ByWord, BySaid, Turned}

module _ (R : Rule) (f : Fit) (o p : Record) (a : Answer) (n : ℕ) (buf line : List ℕ) (port : ℕ) (xs : List ℕ) (said : Some (port, xs) ≡ said_in line) where
  turned : (r : Result Word BoardFault) → word_taken R f port xs ≡ r → ByWord R f o p a n buf port xs r → Turned R f o p a n buf line
  turned r e h =
      let P : Result Word BoardFault → Type 0 = ByWord R f o p a n buf port xs in
      let S : Option (ℕ × List ℕ) → Type 0 = BySaid R f o p a n buf in
      subst S said (subst P (sym e) h)

  pub turned_refused : (e : BoardFault) → word_taken R f port xs ≡ Err e → a ≡ Refused (refusal_of e) → p ≡ o → n ≡ 0 → Turned R f o p a n buf line
  turned_refused e q told stays none = turned (Err e) q (told, stays, none)

  pub turned_taken : (how : Taken) (slip : Posted) → Accepts R f port xs o p how slip → a ≡ WasTaken how (length (words_of slip)) → n ≡ length (frames_of slip)
      → buf ≡ zero_filled (frames_of slip) 855 → Turned R f o p a n buf line
  turned_taken how slip takes told bytes holds = turned (Ok takes.0) takes.1 (how, slip, takes, told, bytes, holds)
