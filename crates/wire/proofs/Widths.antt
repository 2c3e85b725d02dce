-- How many digits a number of 16 bits has. Assumes nothing.
use Rattle.std.proofs.Common.{◌≡◌, ℕ, ◌+◌, ◌/◌, ◌%◌, ◌<◌, ◌≤◌, length, decimal, ap, ◌∙◌, arith}
use Rattle.std.proofs.lemmas.List.{length_push}
use Rattle.std.proofs.lemmas.Fmt.{decimal_digit, decimal_step}

pub width_one : (n : ℕ) → n < 10 → length (decimal n) ≡ 1
width_one n h = ap length (decimal_digit n h)

-- one more than without the last digit
more : (k n : ℕ) → 10 ≤ n → n < 65536 → length (decimal (n / 10)) ≡ k → length (decimal n) ≡ k + 1
more k n ten h e = ap length (decimal_step n ten (omega arith)) ∙ length_push (decimal (n / 10)) (48 + n % 10) ∙ ap (λ m. m + 1) e

pub width_two : (n : ℕ) → 10 ≤ n → n < 100 → length (decimal n) ≡ 2
width_two n l h = more 1 n l (omega arith) (width_one (n / 10) (omega arith))

pub width_three : (n : ℕ) → 100 ≤ n → n < 1000 → length (decimal n) ≡ 3
width_three n l h = more 2 n (omega arith) (omega arith) (width_two (n / 10) (omega arith) (omega arith))

pub width_four : (n : ℕ) → 1000 ≤ n → n < 10000 → length (decimal n) ≡ 4
width_four n l h = more 3 n (omega arith) (omega arith) (width_three (n / 10) (omega arith) (omega arith))

pub width_five : (n : ℕ) → 10000 ≤ n → n < 65536 → length (decimal n) ≡ 5
width_five n l h = more 4 n (omega arith) h (width_four (n / 10) (omega arith) (omega arith))

pub ruleset widths = (width_one, width_two, width_three, width_four, width_five)
