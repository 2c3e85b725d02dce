-- Frames whose answers are fixed once and for all. Assumes nothing.
use Rattle.std.specs.Prelude.{◌≡◌, ℕ, ◌<◌, List, [], ◌∷◌, ◌++◌, length, Ok, Err, codes, Result, slice_index_or}
use Rattle.wire.specs.declared.fault.FrameFault.{FrameFault}
use Rattle.wire.specs.declared.word.Word.{Word}
use Rattle.wire.specs.Faults.{refusal_of, or_zero}
use Rattle.wire.specs.Frames.{word_in}
use Rattle.wire.specs.Limits.{line_feed}

-- an answer in numbers: 0 and the five numbers of the word, or the refusal's number and place
abbrev pub in_numbers : Result Word FrameFault → List ℕ
in_numbers (Ok w) = 0 ∷ w.group ∷ w.change ∷ w.sender ∷ w.kind ∷ w.value ∷ []
in_numbers (Err f) = (refusal_of f).number ∷ or_zero (refusal_of f).place ∷ []

-- a line of a capture, with its line feed
abbrev pub line : List ℕ → List ℕ
line xs = xs ++ (line_feed ∷ [])

-- each with its length, and its answer
abbrev pub marked : List (List ℕ × ℕ × List ℕ)
marked =
    (line (codes "1,1,0,1,3"), 10, 0 ∷ 1 ∷ 1 ∷ 0 ∷ 1 ∷ 3 ∷ [])
    ∷ (codes "1,1,0,1,3", 9, 14 ∷ 9 ∷ [])
    ∷ (line (codes "1,1,0,1,3") ++ codes "3", 11, 15 ∷ 10 ∷ [])
    ∷ (line (codes "01,1,0,1,3"), 11, 12 ∷ 0 ∷ [])
    ∷ (line (codes "1,1,0,1,33"), 11, 13 ∷ 8 ∷ [])
    ∷ (codes "01,1,0,1,3", 10, 12 ∷ 0 ∷ [])
    ∷ (codes "1,1,0,1,33", 10, 13 ∷ 8 ∷ [])
    ∷ ([], 0, 11 ∷ 0 ∷ [])
    ∷ []

unfoldable pub MarkedCasesHold : Type 0
MarkedCasesHold =
    (i : ℕ) → i < length marked
    → (length (slice_index_or marked i ([], 0, [])).0 ≡ (slice_index_or marked i ([], 0, [])).1)
    × (in_numbers (word_in (slice_index_or marked i ([], 0, [])).0) ≡ (slice_index_or marked i ([], 0, [])).2)
