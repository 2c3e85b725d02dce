-- What a refusal tells, as it is made. Assumes nothing.
use Rattle.std.specs.Prelude.{ℕ, Some, None}
use Rattle.refusal.specs.declared.Refusal.{Refusal}

-- the number alone
abbrev pub told : ℕ → Refusal
told n = record { number = n; place = None; board = None }

-- what a refusal tells, with the board that passes it on
abbrev pub passed_on : ℕ → Refusal → Refusal
passed_on b r = record { number = r.number; place = r.place; board = Some b }
