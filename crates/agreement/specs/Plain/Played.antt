-- Runs of the plain method that happen, each with its oldest event first. Board 2 is listed, and falls silent. Assumes nothing.
use Rattle.std.specs.Prelude.{false, List, [], ◌∷◌}
use Rattle.quorum.specs.Counting.{count_rule}
use Rattle.vote.specs.declared.Decision.{Decision}
use Rattle.vote.specs.declared.Depth.{Depth}
use Rattle.vote.specs.declared.Depth.TheVariants.{One, Two}
use Rattle.vote.specs.declared.Method.TheVariants.{Plain}
use Rattle.vote.specs.Setting.{Setting, decision_on}
use Rattle.agreement.specs.Runs.{Event, starts}
use Rattle.agreement.specs.Plays.{hears, Play, AllHappen}

-- a crew of 3, of which any one may fail, characters 1 to 3, cover 2
abbrev pub setting : Depth → Setting
setting d = record { rule = count_rule 3 2 1; characters = 3; depth = d }

-- Board 2 falls silent after its start; only its word of kind 1 is out.
-- Board 0 decides (1,1): its words of kind 1 are ample and all bear 1.
abbrev pub one_character : List Event
one_character =
    starts 0 1 ∷ starts 2 1 ∷ hears 0 0 1 1 ∷ hears 0 2 1 1 ∷ []

-- Board 2 falls silent after its start; only its word of kind 1 is out.
-- Board 0 decides (0,0): its words of kind 1 are ample and differ.
abbrev pub one_none : List Event
one_none =
    starts 0 1 ∷ starts 2 2 ∷ hears 0 0 1 1 ∷ hears 0 2 1 2 ∷ []

-- Board 2 falls silent after its start; only its word of kind 1 is out.
-- Board 0 decides (1,2): its branch is 1, and so is all it counts in kind 2.
abbrev pub two_character : List Event
two_character =
    starts 0 1 ∷ starts 1 1 ∷ starts 2 1 ∷ hears 0 0 1 1 ∷ hears 0 2 1 1 ∷ hears 1 1 1 1 ∷ hears 1 2 1 1 ∷ hears 0 0 2 1 ∷ hears 0 1 2 1 ∷ []

-- Board 2 falls silent after its start; only its word of kind 1 is out.
-- Board 0 decides (1,1): its branch is 1, and board 1 bears 0 in kind 2.
abbrev pub two_half : List Event
two_half =
    starts 0 1 ∷ starts 1 1 ∷ starts 2 2 ∷ hears 0 0 1 1 ∷ hears 0 1 1 1 ∷ hears 1 1 1 1 ∷ hears 1 2 1 2 ∷ hears 0 0 2 1 ∷ hears 0 1 2 0 ∷ []

-- Board 2 falls silent after its start; only its word of kind 1 is out.
-- Board 0 decides (0,0): its branch is 0, and all it counts in kind 2 is 0.
abbrev pub two_none : List Event
two_none =
    starts 0 1 ∷ starts 1 1 ∷ starts 2 2 ∷ hears 0 0 1 1 ∷ hears 0 2 1 2 ∷ hears 1 1 1 1 ∷ hears 1 2 1 2 ∷ hears 0 0 2 0 ∷ hears 0 1 2 0 ∷ []

abbrev pub play : Depth → List Event → Decision → Play
play d r x = record { setting = setting d; method = Plain; listed = 4; events = r; lied = false; decides = x }

abbrev pub plays : List Play
plays =
    play One one_character (decision_on 1 1)
    ∷ play One one_none (decision_on 0 0)
    ∷ play Two two_character (decision_on 2 1)
    ∷ play Two two_half (decision_on 1 1)
    ∷ play Two two_none (decision_on 0 0)
    ∷ []

unfoldable pub PlainRunsHappen : Type 0
PlainRunsHappen = AllHappen plays
