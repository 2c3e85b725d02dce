-- What a board has counted, and what it remembers of it. A history is the list of the votes counted, the newest first. Assumes nothing.
use Rattle.std.specs.Prelude.{ℕ, Bool, false, ◌&&◌, ◌||◌, List, [], ◌∷◌, None, Option, ◌==◌}
use Rattle.vote.specs.declared.Vote.{Vote}
use Rattle.vote.specs.Search.{or_else, when, given, is}

-- the vote is of this kind and sender
abbrev pub of_kind : ℕ → ℕ → Vote → Bool
of_kind c i w = w.kind == c && w.sender == i

-- a vote of kind c with the value v has been counted of board i
unfoldable pub counted : List Vote → ℕ → ℕ → ℕ → Bool
counted [] c v i = false
counted (w ∷ h) c v i = counted h c v i || (of_kind c i w && w.value == v)

-- the value of the first vote of kind c counted of board i; for echoes this is the sender's opening
unfoldable pub first : List Vote → ℕ → ℕ → Option ℕ
first [] c i = None
first (w ∷ h) c i = or_else (first h c i) (when (of_kind c i w) w.value)

-- all that a method's tests look at: who has echoed what, and the first vote of each kind and sender
pub record Seen : Type 0 where
  pub echo : ℕ → ℕ → Bool
  pub first : ℕ → ℕ → Option ℕ

abbrev pub seen : List Vote → Seen
seen h = record { echo = counted h 1; first = first h }

-- the first vote of kind c of board i bears v
abbrev pub says : Seen → ℕ → ℕ → ℕ → Bool
says x c v i = is v (x.first c i)

-- a vote of kind c has been counted of board i
abbrev pub speaks : Seen → ℕ → ℕ → Bool
speaks x c i = given (x.first c i)

-- A memory: the first answer that a test has given, as the votes came in. It never changes.
unfoldable pub memo : {A : Type 0} → (List Vote → Option A) → List Vote → Option A
memo t [] = None
memo t (w ∷ h) = or_else (memo t h) (t (w ∷ h))

-- the test has passed at some time
unfoldable pub ever : (List Vote → Bool) → List Vote → Bool
ever t [] = false
ever t (w ∷ h) = ever t h || t (w ∷ h)
