-- What is settled before a vote begins, and what the votes of a method come to. Assumes nothing.
use Rattle.std.specs.Prelude.{ℕ, zero, suc, Bool, List, Option}
use Rattle.quorum.specs.Rules.{Rule}
use Rattle.vote.specs.declared.Decision.{Decision}
use Rattle.vote.specs.declared.Depth.{Depth}
use Rattle.vote.specs.declared.Depth.TheVariants.{One, Two}
use Rattle.vote.specs.declared.Vote.{Vote}
use Rattle.vote.specs.Search.{seek}

-- the failure rule, how many characters there are, and the depth
pub record Setting : Type 0 where
  pub rule : Rule
  pub characters : ℕ
  pub depth : Depth

abbrev pub grades : Depth → ℕ
grades One = 1
grades Two = 2

-- the decision for a character with a grade, or for no character
abbrev pub decision_on : ℕ → ℕ → Decision
decision_on g zero = record { value = 0; grade = 0 }
decision_on g (suc v) = record { value = suc v; grade = g }

-- the least value, 0 too, that passes the test
unfoldable pub lowest : Setting → (ℕ → Bool) → Option ℕ
lowest S p = seek (suc S.characters) p

-- A method, as a protocol: what a board that started with a character has posted (by kind and value) and decided, from what it has counted, and
-- whether a board that is listed bad may say anything; where it may not, it keeps to the method too and only falls silent.
pub record Protocol : Type 0 where
  pub posts : ℕ → List Vote → ℕ → ℕ → Bool
  pub decided : List Vote → Option Decision
  pub may_lie : Bool
