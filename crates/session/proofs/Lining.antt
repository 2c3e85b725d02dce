-- From a call to the line that writes it, and from what lines have led to to the promise. Assumes nothing.
use Rattle.std.proofs.Common.{◌≡◌, ℕ, List, [], ◌∷◌, ◌++◌, take, Some, None, Option, Result, ap, ◌∙◌, ap₂, subst}
use Rattle.quorum.specs.declared.either.EitherRule.{EitherRule}
use Rattle.quorum.specs.declared.either.EitherRule.TheVariants.{Count, Listed}
use Rattle.quorum.specs.Good.{count_good, listed_good}
use Rattle.fixed.specs.Items.{items_of}
use Rattle.quorum.specs.Meaning.{either_rule}
use Rattle.quorum.specs.Rules.{Lawful}
use Rattle.lines.specs.Calls as lines
use Rattle.lines.specs.Lines.{call_in}
use Rattle.group.specs.declared.group.Group.{Group}
use Rattle.group.proofs.Promised.{promised}
use Rattle.session.specs.declared.fault.SessionFault.{SessionFault}
use Rattle.session.specs.declared.reply.Played.{Played}
use Rattle.session.specs.Standing.{Standing, nothing_open, stands_open, stands_with, stands_after}
use Rattle.session.specs.declared.letter.Letter.{Letter}
use Rattle.session.specs.declared.reply.Reply.{Reply}
use Rattle.session.specs.Letters.{letter_of}
use Rattle.session.specs.Gathering.{ReadsTheSame, EndsWith}
use Rattle.session.specs.Replies.{reply_of}
use Rattle.session.specs.Shown.{Shows, Led, PlaysCall, PlaysAs, PlaysLine, Promised, KeepsThePromise}
use Rattle.session.proofs.Cutting.{cut}

-- what a call answers, with its letter, is the reply
pub replied : (g h : Option (Group EitherRule)) (x : lines.Call) (letter : Letter) (r : Result Played SessionFault)
    → letter ≡ letter_of x → PlaysCall g x h r → PlaysAs g x h (record { letter = letter; answer = r })
replied g h x letter r same plays s shows =
    let p = plays s shows in (p.0, ap₂ (λ (l : Letter) (a : Result Played SessionFault). record { letter = l; answer = a }) same p.1)

pub same_call : (g h : Option (Group EitherRule)) (x y : lines.Call) (r : Reply) → x ≡ y → PlaysAs g x h r → PlaysAs g y h r
same_call g h x y r is plays = subst (λ (z : lines.Call). PlaysAs g z h r) is plays

-- what the call does that a line writes, the line does
pub line_plays : (g h : Option (Group EitherRule)) (line : List ℕ) (x : lines.Call) (r : Reply) → x ≡ call_in line → PlaysAs g x h r → PlaysLine g line h r
unfolding stands_after
line_plays g h line x r is plays ls led = same_call g h x (call_in line) r is plays (stands_after ls) led

-- a line that is cut at the room does what the whole line does
pub cut_plays : (g h : Option (Group EitherRule)) (line front : List ℕ) (r : Reply) → front ≡ take 122 line → PlaysLine g front h r → PlaysLine g line h r
unfolding stands_after ReadsTheSame
cut_plays g h line front r is plays ls led =
    subst (λ (x : lines.Call). Shows h (stands_with (stands_after ls) x) × (r ≡ reply_of g (stands_after ls) x)) (ap call_in is ∙ cut line) (plays ls led)

-- what is taken for a line that was begun does what the line does
pub ended_plays : (g h : Option (Group EitherRule)) (begun end line : List ℕ) (r : Reply) → EndsWith begun end line → PlaysLine g line h r → PlaysLine g (begun ++ end) h r
ended_plays g h [] end line r is plays = subst (λ (l : List ℕ). PlaysLine g l h r) is plays
ended_plays g h (b ∷ bs) end line r is plays = cut_plays g h ((b ∷ bs) ++ end) line r is plays

lawful : (x : EitherRule) → Lawful (either_rule x)
lawful (Count x) = count_good x.crew x.cover x.f x.good
lawful (Listed x) = listed_good x.crew x.cover (items_of x.sets) x.good

shown_promised : (g : Option (Group EitherRule)) (s : Standing) → Shows g s → Promised g s
shown_promised None nothing_open s = tt
shown_promised None (stands_open o xs) s = tt
shown_promised (Some g) nothing_open s = tt
shown_promised (Some g) (stands_open o xs) s = promised (subst Lawful s.rule (lawful g.rule)) s.reached.opened xs

-- what lines have led to keeps the promise
pub led_keeps : (g : Option (Group EitherRule)) → ∥ Led g ∥₁ → KeepsThePromise g
led_keeps g led = (led, λ ls l. shown_promised g (stands_after ls) l)
