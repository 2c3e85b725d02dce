-- Lines whose calls are fixed once and for all. Assumes nothing.
use Rattle.std.specs.Prelude.{◌≡◌, ℕ, List, [], ◌∷◌, ◌++◌, replicate, codes}
use Rattle.vote.specs.declared.Method.TheVariants.{Plain, Echo}
use Rattle.lines.specs.Calls.{by_count, by_sets, Call, unreadable, opens, starts_board, carries, forges}
use Rattle.lines.specs.Lines.{line_feed, call_in}

-- with the line feed
abbrev pub line : List ℕ → List ℕ
line xs = xs ++ line_feed ∷ []

abbrev pub marked : List (List ℕ × Call)
marked =
    (line (codes "o,p,1,0,0,2,0"), opens (record { method = Plain; depth = 1; crew = 0; failing = by_count 0; characters = 2; bad = 0; starts = [] }))
    ∷ (line (codes "o,e,2,4,1,3,1,3,3,1,2"), opens (record { method = Echo; depth = 2; crew = 4; failing = by_count 1; characters = 3; bad = 1; starts = 3 ∷ 3 ∷ 1 ∷ 2 ∷ [] }))
    ∷ (line (codes "o,e,2,4,1,3,1,3,3,1"), unreadable)
    ∷ (line (codes "g,p,1,2,1,8,0,7,4,5"), opens (record { method = Plain; depth = 1; crew = 2; failing = by_sets (7 ∷ []); characters = 8; bad = 0; starts = 4 ∷ 5 ∷ [] }))
    ∷ (line (codes "s,0"), starts_board 0)
    ∷ (line (codes "s,65535"), starts_board 65535)
    ∷ (line (codes "s,65536"), unreadable)
    ∷ (line (codes "s,01"), unreadable)
    ∷ (line (codes "s,"), unreadable)
    ∷ (line (codes "S,0"), unreadable)
    ∷ (codes "s,0", unreadable)
    ∷ (line (codes "c,1,0,2,3"), carries 1 0 2 3)
    ∷ (line (codes "c,1,0,2"), unreadable)
    ∷ (line (codes "f,0,1,1,1,0,1,3"), forges 0 1 (line (codes "1,1,0,1,3")))
    ∷ (line (codes "f,0,1,"), forges 0 1 (line []))
    ∷ (line (codes "f,0,1"), unreadable)
    ∷ (line (codes "f,0,1," ++ replicate 114 65), forges 0 1 (line (replicate 114 65)))
    ∷ (line (codes "f,0,1," ++ replicate 115 65), unreadable)
    ∷ []

abbrev pub AsMarked : List (List ℕ × Call) → Type 0
AsMarked [] = Unit {0}
AsMarked (m ∷ ms) = (call_in m.0 ≡ m.1) × AsMarked ms

unfoldable pub MarkedCasesHold : Type 0
MarkedCasesHold = AsMarked marked
