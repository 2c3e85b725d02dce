-- Sets of boards as numbers: board i adds 2 to the power i. Everything about a set is read board by board. Assumes nothing.
use Rattle.std.specs.Prelude.{◌≡◌, ℕ, zero, suc, ◌+◌, ◌*◌, ◌/◌, ◌%◌, ◌^◌, Bool, true, cond, not, List, ◌==◌, bit_or, nat_lt}
use Rattle.std.specs.List.{list_any, list_all}

-- board i is in the set s: bit i of the number s
unfoldable pub member : ℕ → ℕ → Bool
member zero s = s % 2 == 1
member (suc i) s = member i (s / 2)

-- the set of the boards below n that pass the test p
unfoldable pub set_of : ℕ → (ℕ → Bool) → ℕ
set_of zero p = 0
set_of (suc n) p = set_of n (λ i. p (suc i)) * 2 + cond (p 0) 1 0

-- the rest of a crew of n: its boards that are not in s
unfoldable pub rest : ℕ → ℕ → ℕ
unfolding set_of
rest n s = set_of n (λ i. not (member i s))

-- each board of s is in t
abbrev pub Part : ℕ → ℕ → Type 0
Part s t = (i : ℕ) → member i s ≡ true → member i t ≡ true

-- the same as a test: s adds no board to t
abbrev pub part : ℕ → ℕ → Bool
part s t = bit_or s t == t

-- the set s has no board outside a crew of n
abbrev pub in_crew : ℕ → ℕ → Bool
in_crew n s = nat_lt s (2 ^ n)

-- s holds the whole crew of n: it leaves nobody out
abbrev pub whole : ℕ → ℕ → Bool
whole n s = rest n s == 0

-- board i is in some set of the list, and in each
abbrev pub in_some : ℕ → List ℕ → Bool
in_some i ss = list_any (member i) ss

abbrev pub in_each : ℕ → List ℕ → Bool
in_each i ss = list_all (member i) ss
