-- Which method a letter stands for, and which depth a number. Assumes nothing.
use Rattle.std.specs.Prelude.{ℕ, cond, Some, None, Option, ◌==◌}
use Rattle.vote.specs.declared.Depth.{Depth}
use Rattle.vote.specs.declared.Depth.TheVariants.{One, Two}
use Rattle.vote.specs.declared.Method.{Method}
use Rattle.vote.specs.declared.Method.TheVariants.{Plain, Echo}

-- the letters of the methods: p, e
abbrev pub plain_letter : ℕ
plain_letter = 112

abbrev pub echo_letter : ℕ
echo_letter = 101

abbrev pub method_of : ℕ → Option Method
method_of b = cond (b == plain_letter) (Some Plain) (cond (b == echo_letter) (Some Echo) None)

-- the number is that of the grades
abbrev pub depth_of : ℕ → Option Depth
depth_of n = cond (n == 1) (Some One) (cond (n == 2) (Some Two) None)
