-- The lamp's order: show v at the highest grade, load v and hold at grade 1 of depth 2, stay where no character is decided. Assumes nothing.
use Rattle.std.specs.Prelude.{cond, ◌==◌}
use Rattle.vote.specs.declared.Decision.{Decision}
use Rattle.vote.specs.declared.Depth.{Depth}
use Rattle.vote.specs.declared.Depth.TheVariants.{One, Two}
use Rattle.board.specs.declared.lamp.Order.{Order}
use Rattle.board.specs.declared.lamp.Order.TheVariants.{Show, Load, Stay}

abbrev pub order_of : Depth → Decision → Order
order_of One d = cond (d.value == 0) Stay (Show d.value)
order_of Two d = cond (d.value == 0) Stay (cond (d.grade == 2) (Show d.value) (Load d.value))
