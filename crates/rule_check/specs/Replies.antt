-- What is answered to the first line. Assumes nothing.
use Rattle.std.specs.Prelude.{◌≡◌, Some, None, Ok, Err, Option, Result}
use Rattle.quorum.specs.declared.either.EitherRule.{EitherRule}
use Rattle.quorum.specs.Asked.{Asked, rule_of, fault_of}
use Rattle.quorum.specs.Meaning.{either_rule}
use Rattle.rule_check.specs.declared.reply.NoRule.{NoRule}
use Rattle.rule_check.specs.declared.reply.NoRule.TheVariants.{Refused, Unreadable}

-- a line that asks for nothing is unreadable; a rule that nothing stands against is made as asked; else what stands against it is told
abbrev pub Replies : Option Asked → Result EitherRule NoRule → Type 0
Replies None (Ok x) = ⊥
Replies None (Err (Refused e)) = ⊥
Replies None (Err Unreadable) = Unit {0}
Replies (Some a) (Ok x) = (fault_of a ≡ None) × (either_rule x ≡ rule_of a)
Replies (Some a) (Err (Refused e)) = fault_of a ≡ Some e
Replies (Some a) (Err Unreadable) = ⊥
