-- What a frame line says. Assumes nothing.
use Rattle.std.specs.Prelude.{ℕ, cond, List, Some, Option, nat_lt}
use Rattle.numerals.specs.Numerals.{and_then}
use Rattle.numerals.specs.Parts.{field_in}

-- a port beyond 255 is of no board, as 255 is of none
abbrev pub port_told : ℕ → ℕ
port_told p = cond (nat_lt 255 p) 255 p

-- the number before the first comma is the port, what follows the comma is the frame
abbrev pub said_in : List ℕ → Option (ℕ × List ℕ)
said_in line = and_then (field_in line) (λ f. Some (port_told f.0, f.1))
