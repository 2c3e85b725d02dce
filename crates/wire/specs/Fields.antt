-- Fields of a frame, over the list of its bytes: which number stands at a place, or why none does. Assumes nothing.
use Rattle.std.specs.Prelude.{ℕ, ◌+◌, ◌-◌, ◌*◌, Bool, cond, ◌&&◌, List, length, take, drop, Some, None, Option, Ok, Err, fold, Result, ◌==◌, nat_le, nat_lt, slice_index}
use Rattle.std.specs.List.{prefix_len}
use Rattle.wire.specs.declared.fault.FrameFault.{FrameFault}
use Rattle.wire.specs.Faults.{fault}

abbrev pub is_digit : ℕ → Bool
is_digit b = nat_le 48 b && nat_le b 57

-- how long the longest run of digits at the front is
abbrev pub run : List ℕ → ℕ
run xs = prefix_len is_digit xs

-- the number that digits write in base ten, highest digit first
abbrev pub value_of : List ℕ → ℕ
value_of ds = fold (λ n d. n * 10 + (d - 48)) 0 ds

-- the number that the longest run at the front writes, however long it is
abbrev pub number : List ℕ → ℕ
number xs = value_of (take (run xs) xs)

-- x, where 16 bits hold the number
abbrev pub within_16_bits : {X : Type 0} → ℕ → X → Option X
within_16_bits n x = cond (nat_lt n 65536) (Some x) None

-- that number and the run's length, where 16 bits hold the number
abbrev pub digits : List ℕ → Option (ℕ × ℕ)
digits xs = within_16_bits (number xs) (number xs, run xs)

-- a zero at the front that another digit follows
abbrev pub zero_leads : List ℕ → Bool
zero_leads xs = slice_index xs 0 == 48 && is_digit (slice_index xs 1)

abbrev pub is_within : ℕ → ℕ → ℕ → Bool
is_within low high n = nat_le low n && nat_le n high

-- whether a byte stands at a place
abbrev pub stands : List ℕ → ℕ → ℕ → Bool
stands xs p b = nat_lt p (length xs) && slice_index xs p == b

abbrev pub and_then : {X Y E : Type 0} → Result X E → (X → Result Y E) → Result Y E
and_then (Ok x) f = f x
and_then (Err e) f = Err e

-- the field at the place p: its number, from low to high, and the place after it
unfoldable pub field_at : List ℕ → ℕ → ℕ → ℕ → Result (ℕ × ℕ) FrameFault
field_at xs p low high =
    cond (run (drop p xs) == 0) (Err (fault 11 p))
    (cond (zero_leads (drop p xs)) (Err (fault 12 p))
    (cond (is_within low high (number (drop p xs))) (Ok (number (drop p xs), p + run (drop p xs))) (Err (fault 13 p))))

-- the place after a byte that has to stand at p
abbrev pub after_byte : List ℕ → ℕ → ℕ → Result ℕ FrameFault
after_byte xs p b = cond (stands xs p b) (Ok (p + 1)) (Err (fault 14 p))

-- the reader's place after a call: where the answer says, or as it was
abbrev pub place_after : {X : Type 0} → (X → ℕ) → Result X FrameFault → ℕ → ℕ
place_after f (Ok x) p = f x
place_after f (Err e) p = p
