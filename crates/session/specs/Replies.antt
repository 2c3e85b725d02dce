-- What a line is answered. Assumes nothing.
use Rattle.std.specs.Prelude.{ℕ, List, ◌∷◌, Some, None, Ok, Err, Option, Result}
use Rattle.quorum.specs.declared.either.EitherRule.{EitherRule}
use Rattle.quorum.specs.Rules.{Rule}
use Rattle.lines.specs.Calls as lines
use Rattle.lines.specs.Calls.{unreadable, opens, starts_board, carries, forges}
use Rattle.group.specs.declared.fault.GroupFault.{GroupFault}
use Rattle.group.specs.declared.fault.GroupFault.TheVariants.{NoGroup}
use Rattle.group.specs.declared.group.Group.{Group}
use Rattle.group.specs.declared.terms.Terms.{Terms}
use Rattle.group.specs.Calls.{Yield, Call, starting, carrying, forging, answered}
use Rattle.group.specs.Promises.{decided_after}
use Rattle.session.specs.declared.fault.SessionFault.{SessionFault}
use Rattle.session.specs.declared.fault.SessionFault.TheVariants.{Unreadable, Group as OfGroup}
use Rattle.session.specs.declared.reply.Played.{Played}
use Rattle.session.specs.declared.reply.Reply.{Reply}
use Rattle.session.specs.Letters.{letter_of}
use Rattle.session.specs.Opening.{rule_of, opening_fault}
use Rattle.session.specs.Standing.{Standing, nothing_open, stands_open}

-- an accepted opening posts nothing, and names no board
abbrev pub opening_says : Option SessionFault → Result Played SessionFault
opening_says None = Ok (record { words = 0; decision = None })
opening_says (Some f) = Err f

-- what the group answers to the call x after the calls xs: how many words are posted, and what board i has decided then
abbrev pub group_says : Rule → Terms → Call → List Call → ℕ → Result Yield GroupFault → Result Played SessionFault
group_says R T x xs i (Ok t) = Ok (record { words = t.turn.words; decision = decided_after R T (x ∷ xs) i })
group_says R T x xs i (Err e) = Err (OfGroup e)

-- a call where board i is named first, on the group that is open, if one is
abbrev pub called_says : Option (Group EitherRule) → Standing → Call → ℕ → Result Played SessionFault
called_says None s x i = Err (OfGroup NoGroup)
called_says (Some g) nothing_open x i = Err (OfGroup NoGroup)
called_says (Some g) (stands_open o xs) x i = group_says (rule_of o) g.terms x xs i (answered (rule_of o) g.terms x xs)

abbrev pub answer_of : Option (Group EitherRule) → Standing → lines.Call → Result Played SessionFault
answer_of g s unreadable = Err Unreadable
answer_of g s (opens o) = opening_says (opening_fault o)
answer_of g s (starts_board i) = called_says g s (starting i) i
answer_of g s (carries to from kind value) = called_says g s (carrying to from kind value) to
answer_of g s (forges to from bytes) = called_says g s (forging to from bytes) to

abbrev pub reply_of : Option (Group EitherRule) → Standing → lines.Call → Reply
reply_of g s x = record { letter = letter_of x; answer = answer_of g s x }
