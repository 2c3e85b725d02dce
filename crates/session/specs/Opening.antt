-- What a line that opens a group asks for, and what stands against it, by rising number across rule and group. Assumes nothing.
use Rattle.std.specs.Prelude.{ℕ, ◌*◌, Bool, true, not, [], ◌∷◌, Option, nat_lt}
use Rattle.vote.specs.declared.Method.{Method}
use Rattle.vote.specs.declared.Method.TheVariants.{Plain, Echo}
use Rattle.wire.specs.Fields.{is_within}
use Rattle.quorum.specs.declared.fault.RuleFault.TheVariants.{Crew, Sets, WholeCrew}
use Rattle.quorum.specs.Rules.{Rule}
use Rattle.quorum.specs.Counting.{count_rule}
use Rattle.quorum.specs.Listing.{listed_rule, sets_fit, held}
use Rattle.board.specs.declared.fault.BoardFault.TheVariants.{Characters, Depth, Start}
use Rattle.lines.specs.Calls.{Failing, by_count, by_sets, Opening}
use Rattle.group.specs.declared.fault.GroupFault.TheVariants.{Opening as Against, Family}
use Rattle.group.specs.Calls.{first_failed}
use Rattle.group.specs.Sound.{all_characters}
use Rattle.session.specs.declared.fault.SessionFault.{SessionFault}
use Rattle.session.specs.declared.fault.SessionFault.TheVariants.{Rule as OfRule, Group as OfGroup}

-- the plain method goes with a cover of 2, the echo method with 3
abbrev pub cover_of : Method → ℕ
cover_of Plain = 2
cover_of Echo = 3

-- group and change are 1
abbrev pub group_number : ℕ
group_number = 1

abbrev pub change_number : ℕ
change_number = 1

-- the rule of a crew of n with cover c
abbrev pub failing_rule : ℕ → ℕ → Failing → Rule
failing_rule n c (by_count f) = count_rule n c f
failing_rule n c (by_sets ss) = listed_rule n c ss

-- listed sets are not too many, and none has a board outside the crew
abbrev pub sets_good : ℕ → Failing → Bool
sets_good n (by_count f) = true
sets_good n (by_sets ss) = sets_fit n ss

-- no c sets that may fail, repeats allowed, hold the whole crew
abbrev pub crew_spared : ℕ → ℕ → Failing → Bool
crew_spared n c (by_count f) = nat_lt (c * f) n
crew_spared n c (by_sets ss) = not (held n ss c 0)

unfoldable pub rule_of : Opening → Rule
rule_of o = failing_rule o.crew (cover_of o.method) o.failing

unfoldable pub opening_fault : Opening → Option SessionFault
opening_fault o = first_failed (
    (is_within 1 16 o.crew, OfRule Crew)
    ∷ (is_within 1 8 o.characters, OfGroup (Against Characters))
    ∷ (is_within 1 2 o.depth, OfGroup (Against Depth))
    ∷ (sets_good o.crew o.failing, OfRule Sets)
    ∷ (crew_spared o.crew (cover_of o.method) o.failing, OfRule WholeCrew)
    ∷ (all_characters o.characters o.starts, OfGroup (Against Start))
    ∷ ((failing_rule o.crew (cover_of o.method) o.failing).fails o.bad, OfGroup Family)
    ∷ [])
