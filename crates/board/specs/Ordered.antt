-- The order of a board's lamp, from what its method decides. Assumes nothing.
use Rattle.std.specs.Prelude.{◌≡◌, List, Some, None, Option}
use Rattle.quorum.specs.Rules.{Rule}
use Rattle.vote.specs.declared.Decision.{Decision}
use Rattle.vote.specs.declared.Depth.{Depth}
use Rattle.vote.specs.declared.Vote.{Vote}
use Rattle.board.specs.declared.fit.Fit.{Fit}
use Rattle.board.specs.declared.lamp.Order.{Order}
use Rattle.board.specs.declared.record.Record.{Record}
use Rattle.board.specs.Lamps.{order_of}
use Rattle.board.specs.Shown.{setting_of, method_of, record_of}

abbrev pub ordered : Depth → Option Decision → Option Order
ordered d None = None
ordered d (Some x) = Some (order_of d x)

-- r is the order that follows from what the board has decided of any history that its record shows
abbrev pub Orders : Rule → Fit → Record → Option Order → Type 0
Orders R f o r = (h : List Vote) → o ≡ record_of R f h → r ≡ ordered f.depth ((method_of f.method (setting_of R f)).decided h)
