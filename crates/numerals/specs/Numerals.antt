-- Numbers in base ten, and numbers parted by commas. Assumes nothing.
use Rattle.std.specs.Prelude.{ℕ, ◌+◌, ◌-◌, ◌*◌, Bool, cond, ◌&&◌, List, [], ◌∷◌, Some, None, Option, ◌==◌, nat_le, nat_lt}
use Rattle.std.specs.List.{slice_split}

-- the bytes with a meaning: a comma, the digits from zero to nine
abbrev pub comma : ℕ
comma = 44

abbrev pub zero_digit : ℕ
zero_digit = 48

abbrev pub nine_digit : ℕ
nine_digit = 57

-- the greatest number that a line may hold
abbrev pub max_number : ℕ
max_number = 65535

-- the next answer, where there is a first
abbrev pub and_then : {A B : Type 0} → Option A → (A → Option B) → Option B
and_then None f = None
and_then (Some x) f = f x

abbrev pub digit : ℕ → Bool
digit b = nat_le zero_digit b && nat_le b nine_digit

-- a number with one digit more, unless that makes it too large; after no digit the digit itself; nothing follows a leading 0
abbrev pub with_digit : Option ℕ → ℕ → Option ℕ
with_digit None b = cond (digit b) (Some (b - zero_digit)) None
with_digit (Some v) b = cond (digit b && nat_lt 0 v && nat_le (v * 10 + (b - zero_digit)) max_number) (Some (v * 10 + (b - zero_digit))) None

-- the number that the bytes write, after what was read of it before
abbrev pub number_on : Option ℕ → List ℕ → Option ℕ
number_on v [] = v
number_on v (b ∷ bs) = and_then (with_digit v b) (λ w. number_on (Some w) bs)

abbrev pub number_in : List ℕ → Option ℕ
number_in bs = number_on None bs

-- the numbers of the parts, where each part writes one
abbrev pub each_number : List (List ℕ) → Option (List ℕ)
each_number [] = Some []
each_number (p ∷ ps) = and_then (number_in p) (λ v. and_then (each_number ps) (λ vs. Some (v ∷ vs)))

-- the parts between commas: one more than there are commas
abbrev pub parts : List ℕ → List (List ℕ)
parts bs = slice_split (λ b. b == comma) bs

-- the numbers that the bytes write with single commas between
unfoldable pub numbers_in : List ℕ → Option (List ℕ)
numbers_in bs = each_number (parts bs)
