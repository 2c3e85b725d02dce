-- What the functions that make an opening of a line owe. Assumes nothing.
use Rattle.std.specs.Prelude.{◌≡◌, [], ◌∷◌, length, take, Option}
use Rattle.wire.specs.Fields.{is_within}
use Rattle.quorum.specs.declared.fault.RuleFault.{RuleFault}
use Rattle.quorum.specs.declared.fault.RuleFault.TheVariants.{Crew}
use Rattle.quorum.specs.Faults.{count_fault, listed_fault}
use Rattle.board.specs.declared.fault.BoardFault.TheVariants.{Characters, Depth}
use Rattle.lines.specs.Calls.{Failing, by_count, by_sets, Opening}
use Rattle.group.specs.declared.fault.GroupFault.TheVariants.{Opening as Against}
use Rattle.group.specs.declared.opening.Opening as asked
use Rattle.std.specs.Prelude.{ℕ}
use Rattle.group.specs.Calls.{first_failed}
use Rattle.session.specs.declared.fault.SessionFault.{SessionFault}
use Rattle.session.specs.declared.fault.SessionFault.TheVariants.{Rule as OfRule, Group as OfGroup}
use Rattle.session.specs.Opening.{cover_of, group_number, change_number}

abbrev pub failing_fault : ℕ → ℕ → Failing → Option RuleFault
failing_fault n c (by_count f) = count_fault n c f
failing_fault n c (by_sets ss) = listed_fault n c ss

-- what stands against the rule alone
abbrev pub rule_fault : Opening → Option RuleFault
rule_fault o = failing_fault o.crew (cover_of o.method) o.failing

-- what stands against the sizes alone
abbrev pub sizes_fault : Opening → Option SessionFault
sizes_fault o = first_failed (
    (is_within 1 16 o.crew, OfRule Crew)
    ∷ (is_within 1 8 o.characters, OfGroup (Against Characters))
    ∷ (is_within 1 2 o.depth, OfGroup (Against Depth))
    ∷ [])

-- the group's opening has the numbers of the line's
pub record Asks (o : Opening) (a : asked.Opening) : Type 0 where
  pub method : a.method ≡ o.method
  pub depth : a.depth ≡ o.depth
  pub characters : a.characters ≡ o.characters
  pub group : a.group ≡ group_number
  pub change : a.change ≡ change_number
  pub listed : a.listed ≡ o.bad
  pub starts : take (length o.starts) a.starts ≡ o.starts
