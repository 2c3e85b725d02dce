-- The least number that passes a test, and tests over all numbers below a bound. Assumes nothing.
use Rattle.std.specs.Prelude.{ℕ, zero, suc, Bool, false, not, Some, None, Option, ◌==◌}
pub use Rattle.std.specs.Option.{option_or as or_else, is_some as given}
pub use Rattle.std.specs.Bool.{then_some as when}

-- v is what the option holds
abbrev pub is : ℕ → Option ℕ → Bool
is v None = false
is v (Some u) = v == u

-- the least number below n that passes the test p
unfoldable pub seek : ℕ → (ℕ → Bool) → Option ℕ
seek zero p = None
seek (suc n) p = or_else (seek n p) (when (p n) n)

abbrev pub some_below : ℕ → (ℕ → Bool) → Bool
some_below n p = given (seek n p)

abbrev pub all_below : ℕ → (ℕ → Bool) → Bool
all_below n p = not (some_below n (λ i. not (p i)))
