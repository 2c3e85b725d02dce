-- The methods by their names, and the cover that each needs. Assumes nothing.
use Rattle.std.specs.Prelude.{ℕ}
use Rattle.vote.specs.declared.Method.{Method}
use Rattle.vote.specs.declared.Method.TheVariants.{Plain, Echo}
use Rattle.vote.specs.Setting.{Setting, Protocol}
use Rattle.agreement.specs.Plain.{plain}
use Rattle.agreement.specs.Echo.{echo}

-- what the boards of a method do: the definitions that the boards' code is proved against
abbrev pub method_of : Method → Setting → Protocol
method_of Plain S = plain S
method_of Echo S = echo S

-- the least cover of a rule under which the method agrees
abbrev pub needed_cover : Method → ℕ
needed_cover Plain = 2
needed_cover Echo = 3
