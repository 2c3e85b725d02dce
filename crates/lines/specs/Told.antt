-- Which call the code's own record of a line stands for. Assumes nothing.
use Rattle.std.specs.Prelude.{◌≡◌, ℕ, ◌+◌, ◌≤◌, true, cond, List, length, take, drop, Some, None, Option, ◌==◌, slice_index}
use Rattle.vote.specs.declared.Method.{Method}
use Rattle.lines.specs.declared.head.Head.{Head}
use Rattle.lines.specs.declared.line.Line.{Line}
use Rattle.lines.specs.declared.line.Line.TheVariants.{Open, Start, Carry, Forge}
use Rattle.lines.specs.declared.plan.By.{By}
use Rattle.lines.specs.declared.plan.By.TheVariants.{Count, Sets}
use Rattle.lines.specs.declared.plan.Plan.{Plan}
use Rattle.fixed.specs.Items.{items_of}
use Rattle.lines.specs.Calls.{Failing, by_count, by_sets, Opening, Call, unreadable, opens, starts_board, carries, forges}
use Rattle.lines.specs.Lines.{begins_opening, opening_with, opening_in}

-- how many listed sets lead the numbers of a plan
abbrev pub sets_many : By → ℕ
sets_many (Count f) = 0
sets_many (Sets m) = m

abbrev pub sets_of : Plan → List ℕ
sets_of p = take (sets_many p.by) (items_of p.numbers)

abbrev pub starts_of : Plan → List ℕ
starts_of p = drop (sets_many p.by) (items_of p.numbers)

abbrev pub failing_by : By → List ℕ → Failing
failing_by (Count f) vs = by_count f
failing_by (Sets m) vs = by_sets (take m vs)

abbrev pub opening_of : Plan → Opening
opening_of p = record {
  method = p.method;
  depth = p.depth;
  crew = p.crew;
  failing = failing_by p.by (items_of p.numbers);
  characters = p.characters;
  bad = p.listed;
  starts = starts_of p;
}

-- a plan from the numbers of a line, by what its boards fail by: the five that lead, then its sets, then one starting character for each board
abbrev pub open_with : Method → List ℕ → By → Call
open_with m vs by =
    cond (length vs == 5 + sets_many by + slice_index vs 1) (opens (opening_with m vs (failing_by by (drop 5 vs)) (drop (sets_many by) (drop 5 vs)))) unreadable

-- what is made of a method and numbers, if they were read
abbrev pub head_call : (Method → List ℕ → Call) → Option Head → Call
head_call call None = unreadable
head_call call (Some h) = call h.method (items_of h.numbers)

-- the call of a plan, if one was read
abbrev pub plan_call : Option Plan → Call
plan_call None = unreadable
plan_call (Some p) = opens (opening_of p)

-- what an opening asks for is left in the line, and what is forged is told by the place in the line at which it begins
abbrev pub call_of : List ℕ → Option Line → Call
call_of line None = unreadable
call_of line (Some Open) = opening_in line
call_of line (Some (Start i)) = starts_board i
call_of line (Some (Carry to from kind value)) = carries to from kind value
call_of line (Some (Forge to from place)) = forges to from (drop place line)

-- a plan has as many sets as it says and one starting character for each board
abbrev pub PlanWithin : Option Plan → Type 0
PlanWithin None = Unit {0}
PlanWithin (Some p) = (length (sets_of p) ≡ sets_many p.by) × (length (starts_of p) ≡ p.crew)

-- an opening is told of no other line than a whole one with the letter of an opening, and a place is within the line
abbrev pub Within : List ℕ → Option Line → Type 0
Within line None = Unit {0}
Within line (Some Open) = begins_opening line ≡ true
Within line (Some (Start i)) = Unit {0}
Within line (Some (Carry to from kind value)) = Unit {0}
Within line (Some (Forge to from place)) = place ≤ length line
