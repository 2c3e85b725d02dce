-- The calls of a group: what each answers, with the scratch that goes with the answer, and the run and the records that a list of calls leads to. Assumes nothing.
use Rattle.std.specs.Prelude.{ℕ, cond, not, ◌&&◌, ◌||◌, List, [], ◌∷◌, length, Some, None, Ok, Err, Option, Result, nat_lt}
use Rattle.quorum.specs.Rules.{Rule}
use Rattle.vote.specs.declared.Vote.{Vote}
use Rattle.vote.specs.Search.{given}
use Rattle.agreement.specs.Runs.{Event, starts, counts, start_of, history, posted}
use Rattle.wire.specs.declared.posted.Posted.{Posted}
use Rattle.wire.specs.declared.word.Word.{Word}
use Rattle.wire.specs.Frames.{frame_of}
use Rattle.wire.specs.Slips.{words_of, frames_of}
use Rattle.wire.specs.Writes.{zero_filled}
use Rattle.heard.specs.Shown.{table}
use Rattle.board.specs.declared.answer.Taken.{Taken}
use Rattle.board.specs.declared.answer.Taken.TheVariants.{Counted, Again}
use Rattle.board.specs.declared.fault.BoardFault.{BoardFault}
use Rattle.board.specs.declared.fit.Fit.{Fit}
use Rattle.board.specs.declared.record.Record.{Record}
pub use Rattle.board.specs.Fitting.{first_failed}
use Rattle.board.specs.Shown.{record_of, answer_of, repeats, with_vote}
use Rattle.board.specs.Started.{told_of, slip_of, first_posted}
use Rattle.board.specs.Taking.{word_taken, vote_of}
use Rattle.group.specs.declared.fault.GroupFault.{GroupFault}
use Rattle.group.specs.declared.fault.GroupFault.TheVariants.{Outside, Listed, Begun, Idle, Unlisted, Unposted, Board as Refuses}
use Rattle.group.specs.declared.records.Records.{Records}
use Rattle.group.specs.declared.terms.Terms.{Terms}
use Rattle.group.specs.declared.turn.Done.{Done}
use Rattle.group.specs.declared.turn.Done.TheVariants.{Started as HasStarted, Counted as HasCounted, Again as FoundAgain}
use Rattle.group.specs.declared.turn.Turn.{Turn}
use Rattle.group.specs.Terms.{method_in, start_at, fit_at, lies}

-- a call by its numbers: a board starts; a word comes to a board from the one that posted it (to, from, kind, value); bytes come to a board on the port of another (to, from, bytes)
pub data Call : Type 0 where
  starting : ℕ → Call
  carrying : ℕ → ℕ → ℕ → ℕ → Call
  forging : ℕ → ℕ → List ℕ → Call

abbrev pub done_of : Taken → Done
done_of Counted = HasCounted
done_of Again = FoundAgain

-- what an accepted call yields: its answer, and the scratch of 114 bytes into which the words of its slip are written
pub record Yield : Type 0 where
  pub turn : Turn
  pub scratch : List ℕ

abbrev pub yield_of : Done → Posted → Yield
yield_of d p = record { turn = record { done = d; words = length (words_of p) }; scratch = zero_filled (frames_of p) 114 }

-- an answer, with the scratch as it is then; a refusal says nothing of it
abbrev pub left : Result Turn GroupFault → List ℕ → Result Yield GroupFault
left (Ok t) s = Ok (record { turn = t; scratch = s })
left (Err e) s = Err e

abbrev pub unless : Option GroupFault → Result Yield GroupFault → Result Yield GroupFault
unless None r = r
unless (Some f) r = Err f

-- ---- one board
module _ (R : Rule) (f : Fit) where
  -- what a board with these settings has counted once it has taken a word, or refused the frame
  abbrev pub heard_with : List Vote → Result Word BoardFault → List Vote
  heard_with h (Ok w) = with_vote f.method h (vote_of w)
  heard_with h (Err e) = h

  -- and what it answers
  abbrev pub board_told : List Vote → Result Word BoardFault → Result Yield GroupFault
  board_told h (Ok w) =
      let news = answer_of R f h (vote_of w) in
      Ok (yield_of (done_of (told_of news)) (slip_of f news))
  board_told h (Err e) = Err (Refuses f.board e)

module _ (R : Rule) (T : Terms) where
  -- ---- the records that a run leads to
  -- none of a board that has not started, and then the one that shows what it has counted
  unfoldable pub board_of : List Event → ℕ → Option Record
  board_of r i = cond (given (start_of r i)) (Some (record_of R (fit_at T i) (history r i))) None

  unfoldable pub records_of : List Event → Records
  records_of r = record { boards = table 16 (board_of r) }

  -- ---- what a board makes of bytes on a port: the run after it, and the answer
  -- the run once board j has taken a word; a vote that is counted already changes nothing
  abbrev pub with_word : List Event → ℕ → Result Word BoardFault → List Event
  with_word r j (Ok w) = cond (repeats T.method (history r j) (vote_of w)) r (counts j (vote_of w) ∷ r)
  with_word r j (Err e) = r

  abbrev pub told_with : List Event → ℕ → Result Word BoardFault → Result Yield GroupFault
  told_with r j t = board_told R (fit_at T j) (history r j) t

  abbrev pub taken_at : ℕ → ℕ → List ℕ → Result Word BoardFault
  taken_at j port xs = word_taken R (fit_at T j) port xs

  -- the bytes of a word that board i posts
  abbrev pub frame_by : ℕ → ℕ → ℕ → List ℕ
  frame_by i c v = frame_of (record { group = T.group; change = T.change; sender = i; kind = c; value = v })

  -- ---- what stands against a call, by rising number
  unfoldable pub start_fault : List Event → ℕ → Option GroupFault
  start_fault r i = first_failed (
      (nat_lt i R.crew, Outside)
      ∷ (not (lies R T i), Listed)
      ∷ (not (given (start_of r i)), Begun)
      ∷ [])

  unfoldable pub carry_fault : List Event → ℕ → ℕ → ℕ → ℕ → Option GroupFault
  carry_fault r to from c v = first_failed (
      (nat_lt to R.crew && nat_lt from R.crew, Outside)
      ∷ (not (lies R T to || lies R T from), Listed)
      ∷ (given (start_of r to) && given (start_of r from), Idle)
      ∷ (posted (method_in R T) r from c v, Unposted)
      ∷ [])

  unfoldable pub forge_fault : List Event → ℕ → ℕ → Option GroupFault
  forge_fault r to from = first_failed (
      (nat_lt to R.crew && nat_lt from R.crew, Outside)
      ∷ (not (lies R T to), Listed)
      ∷ (given (start_of r to), Idle)
      ∷ (lies R T from, Unlisted)
      ∷ [])

  abbrev pub fault_of : List Event → Call → Option GroupFault
  fault_of r (starting i) = start_fault r i
  fault_of r (carrying to from c v) = carry_fault r to from c v
  fault_of r (forging to from xs) = forge_fault r to from

  -- ---- what an accepted call does, and answers
  abbrev pub done_by : List Event → Call → List Event
  done_by r (starting i) = starts i (start_at T i) ∷ r
  done_by r (carrying to from c v) = with_word r to (taken_at to from (frame_by from c v))
  done_by r (forging to from xs) = with_word r to (taken_at to from xs)

  abbrev pub told_by : List Event → Call → Result Yield GroupFault
  told_by r (starting i) = Ok (yield_of HasStarted (first_posted R (fit_at T i)))
  told_by r (carrying to from c v) = told_with r to (taken_at to from (frame_by from c v))
  told_by r (forging to from xs) = told_with r to (taken_at to from xs)

  -- the run after a call, and its answer; a refused call changes nothing
  unfoldable pub next : List Event → Call → List Event
  next r x = cond (given (fault_of r x)) r (done_by r x)

  unfoldable pub answer : List Event → Call → Result Yield GroupFault
  answer r x = unless (fault_of r x) (told_by r x)

  -- ---- lists of calls, the newest first, from the opening on
  unfoldable pub run_of : List Call → List Event
  run_of [] = []
  run_of (x ∷ xs) = next (run_of xs) x

  -- the records after a list of calls
  unfoldable pub after : List Call → Records
  after xs = records_of (run_of xs)

  -- what the newest call of a list answers
  unfoldable pub answered : Call → List Call → Result Yield GroupFault
  answered x xs = answer (run_of xs) x
