-- A rule as it is asked for, of either kind; what stands against it; and the cases that are marked to stay as they are. Assumes nothing.
use Rattle.std.specs.Prelude.{◌≡◌, ℕ, Bool, true, ◌&&◌, List, [], ◌∷◌, Some, None, Option, ◌==◌}
use Rattle.quorum.specs.declared.fault.RuleFault.{RuleFault}
use Rattle.quorum.specs.Rules.{Rule}
use Rattle.quorum.specs.Counting.{count_rule}
use Rattle.quorum.specs.Listing.{listed_rule}
use Rattle.quorum.specs.Faults.{number_of, count_fault, listed_fault}

-- a count rule by crew, cover and f, or a listed rule by crew, cover and sets
pub data Asked : Type 0 where
  counting : ℕ → ℕ → ℕ → Asked
  listing : ℕ → ℕ → List ℕ → Asked

abbrev pub rule_of : Asked → Rule
rule_of (counting n c f) = count_rule n c f
rule_of (listing n c ms) = listed_rule n c ms

abbrev pub fault_of : Asked → Option RuleFault
fault_of (counting n c f) = count_fault n c f
fault_of (listing n c ms) = listed_fault n c ms

-- the number that is told: 0 where nothing stands against the rule
abbrev pub told : Option RuleFault → ℕ
told None = 0
told (Some e) = number_of e

-- The marked cases, each with the number that it is told. Board i of a listed set adds 2 to the power i: 3 is {0,1}, 12 is {2,3}, 48 is {4,5}.
abbrev pub marked : List (Asked × ℕ)
marked =
    (counting 4 3 1, 0)
    ∷ (counting 3 3 1, 5)
    ∷ (counting 3 2 1, 0)
    ∷ (listing 6 3 (3 ∷ 12 ∷ 16 ∷ 32 ∷ []), 0)
    ∷ (listing 6 3 (3 ∷ 12 ∷ 48 ∷ []), 5)
    ∷ []

abbrev pub as_told : List (Asked × ℕ) → Bool
as_told [] = true
as_told (row ∷ rows) = told (fault_of row.0) == row.1 && as_told rows

unfoldable pub MarkedCases : Type 0
MarkedCases = as_told marked ≡ true
