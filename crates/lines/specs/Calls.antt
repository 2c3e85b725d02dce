-- The calls of a session, as its lines write them: whether the numbers are in range is not asked. Assumes nothing.
use Rattle.std.specs.Prelude.{ℕ, List}
use Rattle.vote.specs.declared.Method.{Method}

-- which boards may fail together: at most so many, or each part of a listed set
pub data Failing : Type 0 where
  by_count : ℕ → Failing
  by_sets : List ℕ → Failing

-- characters says up to which number characters go, bad is the set of boards listed bad, starts has the character that each board starts from
pub record Opening : Type 0 where
  pub method : Method
  pub depth : ℕ
  pub crew : ℕ
  pub failing : Failing
  pub characters : ℕ
  pub bad : ℕ
  pub starts : List ℕ

-- a word is carried to a board from another, by its kind and value; bytes are forged to a board as from another
pub data Call : Type 0 where
  unreadable : Call
  opens : Opening → Call
  starts_board : ℕ → Call
  carries : ℕ → ℕ → ℕ → ℕ → Call
  forges : ℕ → ℕ → List ℕ → Call
