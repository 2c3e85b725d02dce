-- What is answered to a line that gives a set, and what is printed of the answers. Assumes nothing.
use Rattle.std.specs.Prelude.{ℕ, Bool, cond, List, ◌++◌, Some, None, Ok, Err, codes, decimal, Option, Result}
use Rattle.numerals.specs.Numerals.{number_in}
use Rattle.quorum.specs.declared.either.EitherRule.{EitherRule}
use Rattle.quorum.specs.Rules.{Rule, strong, ample}
use Rattle.quorum.specs.Faults.{number_of}
use Rattle.rule_check.specs.declared.answer.Judged.{Judged}
use Rattle.rule_check.specs.declared.reply.NoRule.{NoRule}
use Rattle.rule_check.specs.declared.reply.NoRule.TheVariants.{Refused, Unreadable}

-- a number is judged as a set, whatever else the line holds is not read
abbrev pub judged : Rule → Option ℕ → Option Judged
judged R None = None
judged R (Some s) = Some (record { set = s; is_strong = strong R s; is_ample = ample R s })

abbrev pub answer_of : Rule → List ℕ → Option Judged
answer_of R line = judged R (number_in line)

-- a word where it holds, else a dash
abbrev pub word_if : Bool → List ℕ → List ℕ
word_if holds name = cond holds name (codes "-")

-- what is printed of the answers
abbrev pub answer_line : Option Judged → List ℕ
answer_line (Some j) = decimal j.set ++ (codes "," ++ (word_if j.is_strong (codes "strong") ++ (codes "," ++ word_if j.is_ample (codes "ample"))))
answer_line None = codes "unreadable"

abbrev pub reply_line : Result EitherRule NoRule → List ℕ
reply_line (Ok x) = codes "good"
reply_line (Err (Refused e)) = codes "refused " ++ decimal (number_of e)
reply_line (Err Unreadable) = codes "unreadable"
