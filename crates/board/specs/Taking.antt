-- Which frames a started board takes on a port, and why not the others. Assumes nothing.
use Rattle.std.specs.Prelude.{ℕ, cond, ◌&&◌, List, [], ◌∷◌, Some, None, Ok, Err, Option, Result, ◌==◌, nat_lt}
use Rattle.quorum.specs.Rules.{Rule}
use Rattle.vote.specs.declared.Method.{Method}
use Rattle.vote.specs.declared.Method.TheVariants.{Plain, Echo}
use Rattle.vote.specs.declared.Depth.{Depth}
use Rattle.vote.specs.declared.Depth.TheVariants.{One, Two}
use Rattle.vote.specs.declared.Vote.{Vote}
use Rattle.wire.specs.declared.fault.FrameFault.{FrameFault}
use Rattle.wire.specs.declared.word.Word.{Word}
use Rattle.wire.specs.Fields.{is_within, and_then}
use Rattle.wire.specs.Frames.{word_in}
use Rattle.board.specs.declared.fault.BoardFault.{BoardFault}
use Rattle.board.specs.declared.fault.BoardFault.TheVariants.{Crew, Cover, Port, Frame, Elsewhere, Sender, Kind, Value}
use Rattle.board.specs.declared.fit.Fit.{Fit}
use Rattle.board.specs.Fitting.{first_failed}

-- the highest kind that the method uses at the depth
abbrev pub kinds_used : Method → Depth → ℕ
kinds_used Plain One = 1
kinds_used Plain Two = 2
kinds_used Echo One = 3
kinds_used Echo Two = 5

-- the least value of a kind: a plain board's kind 1 bears a character
abbrev pub least_value : Method → ℕ → ℕ
least_value Plain c = cond (c == 1) 1 0
least_value Echo c = 0

-- what stands against a word that was read on the port, by rising number
unfoldable pub word_fault : Fit → ℕ → Word → Option BoardFault
word_fault f port w = first_failed (
    (w.group == f.group && (w.change == f.change), Elsewhere)
    ∷ ((w.sender == port), Sender)
    ∷ (is_within 1 (kinds_used f.method f.depth) w.kind, Kind)
    ∷ (is_within (least_value f.method w.kind) f.characters w.value, Value)
    ∷ [])

-- what stands against the port; a rule with a crew or a cover beyond the limits was never fitted
unfoldable pub port_fault : Rule → ℕ → Option BoardFault
port_fault R port = first_failed ((is_within 1 16 R.crew, Crew) ∷ (is_within 2 3 R.cover, Cover) ∷ (nat_lt port R.crew, Port) ∷ [])

abbrev pub unless : {X : Type 0} → Option BoardFault → Result X BoardFault → Result X BoardFault
unless None r = r
unless (Some f) r = Err f

-- what a frame's reading tells, with the board's number
abbrev pub passed_up : {X : Type 0} → ℕ → Result X FrameFault → Result X BoardFault
passed_up b (Ok x) = Ok x
passed_up b (Err f) = Err (Frame b f)

-- the word that is taken, or the refusal
unfoldable pub word_taken : Rule → Fit → ℕ → List ℕ → Result Word BoardFault
word_taken R f port xs = unless (port_fault R port) (and_then (passed_up f.board (word_in xs)) (λ w. unless (word_fault f port w) (Ok w)))

-- the vote that a board counts of a word
abbrev pub vote_of : Word → Vote
vote_of w = record { sender = w.sender; kind = w.kind; value = w.value }
