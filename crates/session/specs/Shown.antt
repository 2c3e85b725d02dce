-- What the group of a session shows of the lines before, and what a line does. Assumes nothing.
use Rattle.std.specs.Prelude.{◌≡◌, ℕ, List, [], ◌∷◌, Some, None, Ok, Err, Option, Result}
use Rattle.quorum.specs.declared.either.EitherRule.{EitherRule}
use Rattle.quorum.specs.Meaning.{either_rule}
use Rattle.lines.specs.Calls as lines
use Rattle.lines.specs.Calls.{Opening}
use Rattle.lines.specs.Lines.{call_in}
use Rattle.group.specs.declared.group.Group.{Group}
use Rattle.group.specs.declared.opening.Opening as asked
use Rattle.group.specs.Calls.{Call, left, answered}
use Rattle.group.specs.Opening.{Settles}
use Rattle.group.specs.declared.fault.GroupFault.{GroupFault}
use Rattle.group.specs.declared.turn.Turn.{Turn}
use Rattle.group.specs.Promises.{Reached, Plays, Promise}
use Rattle.session.specs.declared.reply.Played.{Played}
use Rattle.session.specs.declared.reply.Reply.{Reply}
use Rattle.session.specs.declared.fault.SessionFault.{SessionFault}
use Rattle.session.specs.Opening.{rule_of, opening_fault, group_number, change_number}
use Rattle.session.specs.Standing.{Standing, nothing_open, stands_open, called_on, stands_with, stands_after}
use Rattle.session.specs.Replies.{group_says, called_says, answer_of, reply_of}

-- what the group is asked for
abbrev pub asked_of : Opening → asked.Opening
asked_of o = record {
  method = o.method;
  depth = o.depth;
  characters = o.characters;
  group = group_number;
  change = change_number;
  listed = o.bad;
  starts = o.starts;
}

-- the group was opened as the line asked for, and the calls xs have led to its records
pub record ShowsOpen (g : Group EitherRule) (o : Opening) (xs : List Call) : Type 0 where
  pub rule : either_rule g.rule ≡ rule_of o
  pub settles : Settles (rule_of o) (asked_of o) g.terms
  pub reached : Reached (rule_of o) g.terms g.records xs

abbrev pub Shows : Option (Group EitherRule) → Standing → Type 0
Shows None nothing_open = Unit {0}
Shows None (stands_open o xs) = ⊥
Shows (Some g) nothing_open = ⊥
Shows (Some g) (stands_open o xs) = ShowsOpen g o xs

-- the lines ls, the newest first, have led to the group
abbrev pub LedBy : Option (Group EitherRule) → List (List ℕ) → Type 0
LedBy g ls = Shows g (stands_after ls)

-- the group that the line asks for is open, with nothing called yet
abbrev pub ShowsOpened : Option (Group EitherRule) → Opening → Type 0
ShowsOpened None o = ⊥
ShowsOpened (Some g) o = ShowsOpen g o []

-- What an opening does to the group g, and answers: just where nothing stands against it, the group that it asks for is open then; else it tells what
-- stands against it, and g stays.
abbrev pub OpensIn : {A : Type 0} → Opening → Option (Group EitherRule) → Option (Group EitherRule) → Result A SessionFault → Type 0
OpensIn o g h (Ok done) = (opening_fault o ≡ None) × ShowsOpened h o
OpensIn o g h (Err f) = (opening_fault o ≡ Some f) × (h ≡ g)

-- A call x on the open group, where board i is named first, leads from g to h and answers r, whatever calls have led to g.
abbrev pub Calls : Group EitherRule → Call → ℕ → Group EitherRule → Result Played SessionFault → Type 0
Calls g x i h r =
    (o : Opening) (xs : List Call) → ShowsOpen g o xs
    → ShowsOpen h o (x ∷ xs) × (r ≡ group_says (rule_of o) g.terms x xs i (answered (rule_of o) g.terms x xs))

-- Wherever a step leads on a group, and whatever it answers, it makes the call x.
abbrev pub MakesCall : (Group EitherRule → Result Turn GroupFault → Group EitherRule → Type 0) → Call → Type 0
MakesCall step x =
    (g h : Group EitherRule) (r : Result Turn GroupFault) → step g r h
    → (h.rule ≡ g.rule) × (h.terms ≡ g.terms) × Plays (either_rule g.rule) g.terms x g.records h.records (left r h.scratch)

-- A call x on the group that is open, if one is, where board i is named first, leads from g to h and answers r, whatever has led to g.
abbrev pub PlaysOn : Option (Group EitherRule) → Call → ℕ → Option (Group EitherRule) → Result Played SessionFault → Type 0
PlaysOn g x i h r = (s : Standing) → Shows g s → Shows h (called_on s x) × (r ≡ called_says g s x i)

-- What a line asks for leads from g to h and answers r, whatever has led to g.
abbrev pub PlaysCall : Option (Group EitherRule) → lines.Call → Option (Group EitherRule) → Result Played SessionFault → Type 0
PlaysCall g x h r = (s : Standing) → Shows g s → Shows h (stands_with s x) × (r ≡ answer_of g s x)

-- The call that a line writes leads from g to h, and the line is answered r, whatever has led to g.
abbrev pub PlaysAs : Option (Group EitherRule) → lines.Call → Option (Group EitherRule) → Reply → Type 0
PlaysAs g x h r = (s : Standing) → Shows g s → Shows h (stands_with s x) × (r ≡ reply_of g s x)

-- The line leads from g to h and is answered r: whatever lines have led to g, with this one they lead to h, and r is the reply that is defined.
abbrev pub PlaysLine : Option (Group EitherRule) → List ℕ → Option (Group EitherRule) → Reply → Type 0
PlaysLine g line h r = (ls : List (List ℕ)) → LedBy g ls → LedBy h (line ∷ ls) × (r ≡ reply_of g (stands_after ls) (call_in line))

-- some lines have led to the group, and nothing else
abbrev pub Led : Option (Group EitherRule) → Type 0
Led g = (ls : List (List ℕ)) × LedBy g ls

-- the whole promise holds of the group that is open, after the calls that have led to it
abbrev pub Promised : Option (Group EitherRule) → Standing → Type 0
Promised None s = Unit {0}
Promised (Some g) nothing_open = Unit {0}
Promised (Some g) (stands_open o xs) = Promise (rule_of o) g.terms xs

-- Some lines have led to the group, and nothing else; and whatever lines they are, of what they have led to the whole promise holds.
abbrev pub KeepsThePromise : Option (Group EitherRule) → Type 0
KeepsThePromise g = ∥ Led g ∥₁ × ((ls : List (List ℕ)) → LedBy g ls → Promised g (stands_after ls))
