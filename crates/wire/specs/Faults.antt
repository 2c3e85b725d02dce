-- What each fault of a frame tells: its number and place. Assumes nothing.
use Rattle.std.specs.Prelude.{ℕ, cond, Some, None, Option, ◌==◌}
use Rattle.refusal.specs.declared.Refusal.{Refusal}
use Rattle.wire.specs.declared.fault.FrameFault.{FrameFault}
use Rattle.wire.specs.declared.fault.FrameFault.TheVariants.{NoDigit, LeadingZero, OutOfRange, WrongByte, Trailing, ShortBuffer}

abbrev pub told : ℕ → Option ℕ → Refusal
told n p = record { number = n; place = p; board = None }

-- every case with its number and, where bytes are at fault, the place; the layer follows from the number
abbrev pub refusal_of : FrameFault → Refusal
refusal_of (NoDigit p) = told 11 (Some p)
refusal_of (LeadingZero p) = told 12 (Some p)
refusal_of (OutOfRange p) = told 13 (Some p)
refusal_of (WrongByte p) = told 14 (Some p)
refusal_of (Trailing p) = told 15 (Some p)
refusal_of ShortBuffer = told 20 None

-- the fault that has this number, at the place p
abbrev pub fault : ℕ → ℕ → FrameFault
fault n p =
    cond (n == 11) (NoDigit p)
    (cond (n == 12) (LeadingZero p)
    (cond (n == 13) (OutOfRange p)
    (cond (n == 14) (WrongByte p)
    (cond (n == 15) (Trailing p) ShortBuffer))))

abbrev pub or_zero : Option ℕ → ℕ
or_zero None = 0
or_zero (Some p) = p
