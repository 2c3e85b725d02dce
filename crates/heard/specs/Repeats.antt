-- Which votes are not counted, since they are found counted already. Assumes nothing.
use Rattle.std.specs.Prelude.{Bool, cond, List, ◌∷◌, ◌==◌}
use Rattle.vote.specs.declared.Vote.{Vote}
use Rattle.vote.specs.History.{counted, first}
use Rattle.vote.specs.Search.{given}

-- an echo counts once for each sender and value, a vote of another kind once for each sender
unfoldable pub repeats : List Vote → Vote → Bool
repeats h w = cond (w.kind == 1) (counted h 1 w.value w.sender) (given (first h w.kind w.sender))

-- the history once w has come
unfoldable pub with_vote : List Vote → Vote → List Vote
with_vote h w = cond (repeats h w) h (w ∷ h)
