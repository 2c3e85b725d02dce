-- What is printed of each answer, and of a decision. Assumes nothing.
use Rattle.std.specs.Prelude.{ℕ, List, ◌++◌, Some, None, codes, decimal, Option}
use Rattle.board.specs.declared.answer.Taken.TheVariants.{Counted, Again}
use Rattle.board.specs.declared.lamp.Order.{Order}
use Rattle.board.specs.declared.lamp.Order.TheVariants.{Show, Load, Stay}
use Rattle.board_bench.specs.declared.decided.Decided.{Decided}
use Rattle.board_bench.specs.declared.answer.Answer.{Answer}
use Rattle.board_bench.specs.declared.answer.Answer.TheVariants.{Unreadable, Refused, Started, Taken}

-- a place is told where the refusal has one
abbrev pub refused_line : ℕ → Option ℕ → List ℕ
refused_line n None = codes "refused " ++ decimal n
refused_line n (Some p) = codes "refused " ++ (decimal n ++ (codes " at " ++ decimal p))

abbrev pub answer_line : Answer → List ℕ
answer_line Unreadable = codes "unreadable"
answer_line (Refused r) = refused_line r.number r.place
answer_line (Started n) = codes "started " ++ decimal n
answer_line (Taken Counted n) = codes "counted " ++ decimal n
answer_line (Taken Again n) = codes "again " ++ decimal n

-- what the lamp is to do
abbrev pub order_line : Order → List ℕ
order_line (Show v) = codes "show " ++ decimal v
order_line (Load v) = codes "load " ++ (decimal v ++ codes " and hold")
order_line Stay = codes "stay"

abbrev pub decided_line : Decided → List ℕ
decided_line d = codes "decided " ++ (decimal d.decision.value ++ (codes "," ++ (decimal d.decision.grade ++ (codes ": " ++ order_line d.order))))
