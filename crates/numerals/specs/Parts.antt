-- A number that a comma ends. Assumes nothing.
use Rattle.std.specs.Prelude.{ℕ, ◌+◌, List, take, drop, Some, Option, ◌==◌, position}
use Rattle.numerals.specs.Numerals.{comma, and_then, number_in}

-- the number before the first comma, and the bytes after that comma
abbrev pub field_in : List ℕ → Option (ℕ × List ℕ)
field_in bs = and_then (position (λ b. b == comma) bs) (λ i. and_then (number_in (take i bs)) (λ v. Some (v, drop (i + 1) bs)))
