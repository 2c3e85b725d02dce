-- What the steps of a group owe: what a board makes of bytes and words, and what it tells of itself. Assumes nothing.
use Rattle.std.specs.Prelude.{◌≡◌, ℕ, ◌<◌, Bool, true, List, Some, Option, Result}
use Rattle.quorum.specs.Rules.{Rule}
use Rattle.vote.specs.declared.Vote.{Vote}
use Rattle.vote.specs.Search.{given}
use Rattle.agreement.specs.Runs.{Event, start_of, posted}
use Rattle.wire.specs.declared.word.Word.{Word}
use Rattle.wire.specs.Frames.{carried, frame_of}
use Rattle.board.specs.declared.fit.Fit.{Fit}
use Rattle.board.specs.declared.record.Record.{Record}
use Rattle.board.specs.Shown.{record_of}
use Rattle.board.specs.Taking.{word_taken}
use Rattle.group.specs.declared.fault.GroupFault.{GroupFault}
use Rattle.group.specs.declared.records.Records.{Records}
use Rattle.group.specs.declared.terms.Terms.{Terms}
use Rattle.group.specs.Calls.{Yield, Call, heard_with, board_told, records_of, taken_at, with_word, told_with, run_of, fault_of}
use Rattle.group.specs.Promises.{Reached}
use Rattle.group.specs.Terms.{method_in}

-- One board with these settings, which has started, takes bytes on a port, from the record o to the record p, and answers r.
abbrev pub BoardTakes : Rule → Fit → ℕ → List ℕ → Option Record → Option Record → Result Yield GroupFault → Type 0
BoardTakes R f port xs o p r =
    (h : List Vote) → o ≡ Some (record_of R f h) → (p ≡ Some (record_of R f (heard_with R f h (word_taken R f port xs)))) × (r ≡ board_told R f h (word_taken R f port xs))

-- Board j, which has started, takes bytes on a port, from the records o to the records p, and answers r.
abbrev pub Takes : Rule → Terms → ℕ → ℕ → List ℕ → Records → Records → Result Yield GroupFault → Type 0
Takes R T j port xs o p r =
    (h : List Event) → o ≡ records_of R T h → j < 16 → given (start_of h j) ≡ true
    → (p ≡ records_of R T (with_word R T h j (taken_at R T j port xs))) × (r ≡ told_with R T h j (taken_at R T j port xs))

-- f is what stands against the call x at the records o, whatever calls have led to them
abbrev pub StandsAgainst : Rule → Terms → Call → Records → Option GroupFault → Type 0
StandsAgainst R T x o f = (xs : List Call) → Reached R T o xs → f ≡ fault_of R T (run_of R T xs) x

-- A word that a frame can carry is brought to board j, which has started, from the records o to the records p, and r is answered.
abbrev pub Brings : Rule → Terms → ℕ → Word → Records → Records → Result Yield GroupFault → Type 0
Brings R T j w o p r = carried w ≡ true → Takes R T j w.sender (frame_of w) o p r

-- r is whether board i, which has started, has posted the word, whatever calls have led to the records.
abbrev pub TellsPosted : Rule → Terms → Records → ℕ → ℕ → ℕ → Bool → Type 0
TellsPosted R T o i c v r =
    (xs : List Call) → Reached R T o xs → i < R.crew → given (start_of (run_of R T xs) i) ≡ true → r ≡ posted (method_in R T) (run_of R T xs) i c v
