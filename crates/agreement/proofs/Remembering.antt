-- A board that has counted anything remembers an answer to each test that gives one now. Assumes nothing.
use Rattle.std.proofs.Common.{◌≡◌, ℕ, Bool, true, List, [], ◌∷◌, Option}
use Rattle.std.proofs.lemmas.Bool.{false≢true, or_right}
use Rattle.vote.specs.declared.Vote.{Vote}
use Rattle.vote.specs.History.{counted, memo, ever}
use Rattle.vote.specs.Search.{given}
use Rattle.vote.proofs.Options.{else_right}

pub memo_complete : {A : Type 0} (t : List Vote → Option A) (h : List Vote) (c v i : ℕ) → counted h c v i ≡ true → given (t h) ≡ true → given (memo t h) ≡ true
unfolding memo counted
memo_complete t [] c v i p q = absurd (false≢true p)
memo_complete t (w ∷ h) c v i p q = else_right (memo t h) _ q

pub ever_complete : (t : List Vote → Bool) (h : List Vote) (c v i : ℕ) → counted h c v i ≡ true → t h ≡ true → ever t h ≡ true
unfolding ever counted
ever_complete t [] c v i p q = absurd (false≢true p)
ever_complete t (w ∷ h) c v i p q = or_right (ever t h) _ q
