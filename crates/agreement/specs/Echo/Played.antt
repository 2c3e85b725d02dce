-- Runs of the echo method that happen, each with its oldest event first. Board 3 is listed, and lies. Assumes nothing.
use Rattle.std.specs.Prelude.{true, List, [], ◌∷◌}
use Rattle.quorum.specs.Counting.{count_rule}
use Rattle.vote.specs.declared.Decision.{Decision}
use Rattle.vote.specs.declared.Depth.{Depth}
use Rattle.vote.specs.declared.Depth.TheVariants.{One, Two}
use Rattle.vote.specs.declared.Method.TheVariants.{Echo}
use Rattle.vote.specs.Setting.{Setting, decision_on}
use Rattle.agreement.specs.Runs.{Event, starts}
use Rattle.agreement.specs.Plays.{hears, Play, AllHappen}

-- a crew of 4, of which any one may fail, characters 1 to 3, cover 3
abbrev pub setting : Depth → Setting
setting d = record { rule = count_rule 4 3 1; characters = 3; depth = d }

-- Board 3 lies: it opens with 1 to board 0 and with 2 to board 1, and its words of kind 3 differ.
-- Board 0 decides (1,1): with boards 1 and 3 its kind 3 senders of 1 are ample, and it is not mixed.
abbrev pub one_character : List Event
one_character =
    starts 0 1 ∷ starts 1 1 ∷ hears 1 3 1 2 ∷ hears 0 0 1 1 ∷ hears 0 1 1 1 ∷ hears 0 3 1 1 ∷ hears 1 0 1 1 ∷ hears 1 1 1 1 ∷ hears 1 3 1 1
    ∷ hears 0 0 2 1 ∷ hears 0 1 2 1 ∷ hears 0 3 2 1 ∷ hears 1 0 2 1 ∷ hears 1 1 2 1 ∷ hears 1 3 2 1 ∷ hears 1 3 3 2 ∷ hears 0 0 3 1 ∷ hears 0 1 3 1
    ∷ hears 0 3 3 1 ∷ []

-- Board 3 lies: it opens with 2 to board 0 and with 1 to board 1, and its words of kind 3 differ.
-- Boards 0 and 1 approve both 1 and 2 and post 0 in kind 3.
-- Board 0 decides (0,0): it is mixed, and kind 3 is ample.
abbrev pub one_none : List Event
one_none =
    starts 0 1 ∷ starts 1 2 ∷ hears 1 3 1 1 ∷ hears 1 0 1 1 ∷ hears 0 3 1 2 ∷ hears 0 1 1 2 ∷ hears 0 0 1 2 ∷ hears 0 3 1 1 ∷ hears 0 1 1 1
    ∷ hears 0 0 1 1 ∷ hears 1 1 1 1 ∷ hears 1 3 1 2 ∷ hears 1 0 1 2 ∷ hears 1 1 1 2 ∷ hears 1 3 3 2 ∷ hears 0 0 3 0 ∷ hears 0 1 3 0 ∷ hears 0 3 3 1 ∷ []

-- Board 3 lies: it opens with 1 to board 0 and with 2 to board 1, and its words of kind 5 differ.
-- Board 0 decides (1,2): with boards 1 and 3 its kind 5 senders of 1 are ample.
abbrev pub two_character : List Event
two_character =
    starts 0 1 ∷ starts 1 1 ∷ hears 1 3 1 2 ∷ hears 0 0 1 1 ∷ hears 0 1 1 1 ∷ hears 0 3 1 1 ∷ hears 1 0 1 1 ∷ hears 1 1 1 1 ∷ hears 1 3 1 1
    ∷ hears 0 0 2 1 ∷ hears 0 1 2 1 ∷ hears 0 3 2 1 ∷ hears 1 0 2 1 ∷ hears 1 1 2 1 ∷ hears 1 3 2 1 ∷ hears 0 0 3 1 ∷ hears 0 1 3 1 ∷ hears 0 3 3 1
    ∷ hears 1 0 3 1 ∷ hears 1 1 3 1 ∷ hears 1 3 3 1 ∷ hears 0 0 4 1 ∷ hears 0 1 4 1 ∷ hears 0 3 4 1 ∷ hears 1 0 4 1 ∷ hears 1 1 4 1 ∷ hears 1 3 4 1
    ∷ hears 1 3 5 2 ∷ hears 0 0 5 1 ∷ hears 0 1 5 1 ∷ hears 0 3 5 1 ∷ []

-- Board 3 lies: it opens with 2 to board 0 and with 1 to board 1,
-- and in kind 4 it tells board 0 the value 2 and board 1 the value 1.
-- Board 0 has outcome 1, then approves 2 as well, and so is mixed when kind 4 is ample: it posts 0 in kind 5.
-- Board 0 decides (1,1): kind 5 is ample, board 1 bears 1 in it, and the kind 4 senders of 1 are strong.
abbrev pub two_half : List Event
two_half =
    starts 0 1 ∷ starts 1 2 ∷ hears 0 3 1 2 ∷ hears 0 3 1 1 ∷ hears 0 0 1 1 ∷ hears 1 3 1 1 ∷ hears 1 0 1 1 ∷ hears 1 1 1 1 ∷ hears 0 1 1 1
    ∷ hears 0 0 2 1 ∷ hears 0 1 2 1 ∷ hears 0 3 2 1 ∷ hears 1 0 2 1 ∷ hears 1 1 2 1 ∷ hears 1 3 2 1 ∷ hears 0 0 3 1 ∷ hears 0 1 3 1 ∷ hears 0 3 3 1
    ∷ hears 1 0 3 1 ∷ hears 1 1 3 1 ∷ hears 1 3 3 1 ∷ hears 0 1 1 2 ∷ hears 0 0 1 2 ∷ hears 0 0 4 1 ∷ hears 0 1 4 1 ∷ hears 0 3 4 2 ∷ hears 1 0 4 1
    ∷ hears 1 1 4 1 ∷ hears 1 3 4 1 ∷ hears 0 0 5 0 ∷ hears 0 1 5 1 ∷ hears 0 3 5 2 ∷ []

-- Board 3 lies: it opens with 2 to board 0 and with 1 to board 1, and its words of kinds 3 and 4 differ.
-- Boards 0 and 1 approve both 1 and 2 and post 0 in the kinds 3, 4 and 5.
-- Board 0 decides (0,0): the kind 5 senders of 0 are ample.
abbrev pub two_none : List Event
two_none =
    starts 0 1 ∷ starts 1 2 ∷ hears 1 3 1 1 ∷ hears 1 0 1 1 ∷ hears 0 3 1 2 ∷ hears 0 1 1 2 ∷ hears 0 0 1 2 ∷ hears 0 3 1 1 ∷ hears 0 1 1 1
    ∷ hears 0 0 1 1 ∷ hears 1 1 1 1 ∷ hears 1 3 1 2 ∷ hears 1 0 1 2 ∷ hears 1 1 1 2 ∷ hears 0 0 3 0 ∷ hears 0 1 3 0 ∷ hears 0 3 3 1 ∷ hears 1 0 3 0
    ∷ hears 1 1 3 0 ∷ hears 1 3 3 2 ∷ hears 0 0 4 0 ∷ hears 0 1 4 0 ∷ hears 0 3 4 2 ∷ hears 1 0 4 0 ∷ hears 1 1 4 0 ∷ hears 1 3 4 1 ∷ hears 0 0 5 0
    ∷ hears 0 1 5 0 ∷ hears 0 3 5 0 ∷ []

abbrev pub play : Depth → List Event → Decision → Play
play d r x = record { setting = setting d; method = Echo; listed = 8; events = r; lied = true; decides = x }

abbrev pub plays : List Play
plays =
    play One one_character (decision_on 1 1)
    ∷ play One one_none (decision_on 0 0)
    ∷ play Two two_character (decision_on 2 1)
    ∷ play Two two_half (decision_on 1 1)
    ∷ play Two two_none (decision_on 0 0)
    ∷ []

unfoldable pub EchoRunsHappen : Type 0
EchoRunsHappen = AllHappen plays
