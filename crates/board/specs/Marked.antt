-- Two cases whose answers are fixed once and for all, by the echo method's definitions. Assumes nothing.
use Rattle.std.specs.Prelude.{◌≡◌, ℕ, ◌<◌, cond, List, [], ◌∷◌, ◌++◌, map, length, Some, None, Option, slice_index_or}
use Rattle.std.specs.List.{flat_map}
use Rattle.quorum.specs.Counting.{count_rule}
use Rattle.vote.specs.declared.Decision.{Decision}
use Rattle.vote.specs.declared.Depth.TheVariants.{One}
use Rattle.vote.specs.declared.Vote.{Vote}
use Rattle.vote.specs.Setting.{Setting}
use Rattle.agreement.specs.Echo.{echoed, decided}

-- crew 4, cover 3, f = 1, characters 1 to 3, depth 1
abbrev pub four_boards : Setting
four_boards = record { rule = count_rule 4 3 1; characters = 3; depth = One }

abbrev pub vote : ℕ → ℕ → ℕ → Vote
vote i c v = record { sender = i; kind = c; value = v }

-- a list with x put in at every place
abbrev pub put_in : {A : Type 0} → A → List A → List (List A)
put_in x [] = (x ∷ []) ∷ []
put_in x (y ∷ ys) = (x ∷ y ∷ ys) ∷ map (λ zs. y ∷ zs) (put_in x ys)

-- every order of a list
abbrev pub orders : {A : Type 0} → List A → List (List A)
orders [] = [] ∷ []
orders (x ∷ xs) = flat_map (put_in x) (orders xs)

-- the forged pair: echoes of 2 from the boards 0, 1 and 2, and of 1 and of 3 from board 3
abbrev pub forged_pair : List Vote
forged_pair = vote 0 1 2 ∷ vote 1 1 2 ∷ vote 2 1 2 ∷ vote 3 1 1 ∷ vote 3 1 3 ∷ []

-- the late approval, the newest vote first: 1 is approved, kind 3 is 0 from board 1 and 1 from 2 and 3, and two echoes of 2 are there; then comes the third
abbrev pub before_the_third : List Vote
before_the_third =
    vote 1 1 2 ∷ vote 0 1 2 ∷ vote 3 3 1 ∷ vote 2 3 1 ∷ vote 1 3 0 ∷ vote 3 1 1 ∷ vote 2 1 1 ∷ vote 1 1 1 ∷ []

-- what is asked of a history: whether the echo of 0 is posted by a board that started with 2, or what is decided
pub data Question : Type 0 where
  echo_of_0 decision : Question

abbrev pub told : Option Decision → List ℕ
told None = []
told (Some d) = d.value ∷ d.grade ∷ []

abbrev pub answer : Question → List Vote → List ℕ
answer echo_of_0 h = cond (echoed four_boards 2 h 0) (1 ∷ []) (0 ∷ [])
answer decision h = told (decided four_boards h)

-- each question and history with its answer: no echo of 0 in any order of the forged pair; undecided, and then (0, 0), at the late approval
unfoldable pub marked : List (Question × List Vote × List ℕ)
marked =
    map (λ h. (echo_of_0, h, 0 ∷ [])) (orders forged_pair)
    ++ ((decision, before_the_third, []) ∷ (decision, vote 2 1 2 ∷ before_the_third, 0 ∷ 0 ∷ []) ∷ [])

unfoldable pub MarkedCasesHold : Type 0
MarkedCasesHold =
    (i : ℕ) → i < length marked → answer (slice_index_or marked i (decision, [], [])).0 (slice_index_or marked i (decision, [], [])).1 ≡ (slice_index_or marked i (decision, [], [])).2
