-- A decision for a value at a grade is in range where these are. Assumes nothing.
use Rattle.std.proofs.Common.{ℕ, zero, suc, ◌≤◌, zero-le}
use Rattle.vote.specs.declared.Decision.{Decision}
use Rattle.vote.specs.declared.Depth.{Depth}
use Rattle.vote.specs.Setting.{Setting, grades, decision_on}

module _ (S : Setting) where
  abbrev pub FitsIn : Depth → Decision → Type 0
  FitsIn d y = (y.value ≤ S.characters) × (y.grade ≤ grades d)

  pub graded_fits : (d : Depth) (g v : ℕ) → g ≤ grades d → v ≤ S.characters → FitsIn d (decision_on g v)
  graded_fits d g zero p q = (zero-le, zero-le)
  graded_fits d g (suc v) p q = (q, p)
