-- The listed rule: the boards of one listed set may fail together. Assumes nothing.
use Rattle.std.specs.Prelude.{◌≡◌, ℕ, zero, suc, ◌<◌, Bool, true, ◌&&◌, ◌||◌, List, length, ◌==◌, bit_or, nat_le}
use Rattle.quorum.specs.Limits.{max_listed}
use Rattle.std.specs.List.{list_any, list_all}
use Rattle.quorum.specs.Sets.{part, in_crew, whole, in_some}
use Rattle.quorum.specs.Rules.{Rule}

-- s is the empty set or a part of a listed set
abbrev pub listed : List ℕ → ℕ → Bool
listed ms s = s == 0 || list_any (part s) ms

abbrev pub listed_rule : ℕ → ℕ → List ℕ → Rule
listed_rule n c ms = record { crew = n; cover = c; fails = listed ms }

-- the listed sets are not too many, and none has a board outside a crew of n
abbrev pub sets_fit : ℕ → List ℕ → Bool
sets_fit n ms = nat_le (length ms) max_listed && list_all (in_crew n) ms

-- The set a and c listed sets hold the whole crew of n between them. A listed set may be taken more than once, so fewer than c will do.
unfoldable pub held : ℕ → List ℕ → ℕ → ℕ → Bool
held n ms zero a = whole n a
held n ms (suc c) a = whole n a || list_any (λ m. held n ms c (bit_or a m)) ms

-- Where c listed sets are said to hold the whole crew of n, there are c sets, each empty or a part of a listed set, and every board is in some of them.
unfoldable pub HeldMeansIt : ℕ → List ℕ → ℕ → Type 0
HeldMeansIt n ms c =
    held n ms c 0 ≡ true → (ss : List ℕ) × (length ss ≡ c) × (list_all (listed ms) ss ≡ true) × ((i : ℕ) → i < n → in_some i ss ≡ true)
