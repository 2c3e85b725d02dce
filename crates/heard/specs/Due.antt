-- What a vote makes due as it is counted, where it was not due before. Assumes nothing.
use Rattle.std.specs.Prelude.{ℕ, cond, not, ◌&&◌, ◌||◌, Bool, None, Option, ◌==◌}
use Rattle.quorum.specs.Sets.{member, set_of}
use Rattle.quorum.specs.Rules.{strong_by, ample_by}
use Rattle.vote.specs.declared.Decision.{Decision}
use Rattle.vote.specs.declared.Vote.{Vote}
use Rattle.vote.specs.History.{Seen, says, speaks}
use Rattle.vote.specs.Search.{or_else, when}
use Rattle.vote.specs.Setting.{Setting, lowest}
use Rattle.agreement.specs.Echo.{approved, two_approved, mixed, parted, backed, decides}

-- of a crew of n, the opening of w's sender, which is its first vote of kind 1, bears the value of w
abbrev pub opens : ℕ → Vote → Seen → Bool
opens n w x = member w.sender (set_of n (says x 1 w.value))

-- What the tests 1 and 2 make due once the echo w is counted, of the values that are not echoed already: test 1 is made for the value of w alone, as no other has gained a sender, and test 2
-- only where w is its sender's opening, as else the openings are those of before.
abbrev pub echo_due : Setting → Vote → ℕ → Seen → ℕ → Bool
echo_due S w echoed x v = not (member v echoed) && ((v == w.value && strong_by S.rule (x.echo v)) || (v == 0 && (opens S.rule.crew w x && parted S x)))

-- With the vote w a value becomes approved: w is an echo, and the senders of its value are ample, but not without the sender of w.
abbrev pub approves : Setting → Vote → Seen → Bool
approves S w x = w.kind == 1 && (approved S x w.value && not (ample_by S.rule (λ i. x.echo w.value i && not (w.sender == i))))

-- the value of w, where w is of the kind c and the senders of its value are ample, as no other value has gained a sender
abbrev pub shared_due : Setting → Vote → ℕ → Seen → Option ℕ
shared_due S w c x = when (w.kind == c && ample_by S.rule (says x c w.value)) w.value

-- What is due of the tests 4 to 6, each where it found nothing before. A vote of kind 2 makes no value approved, and one of another kind leaves the senders of kind 2 as they were.
abbrev pub third_due : Setting → Vote → Seen → Option ℕ
third_due S w x = cond (w.kind == 2) (shared_due S w 2 x) (when (two_approved S x) 0)

abbrev pub outcome_due : Setting → Vote → Seen → Option ℕ
outcome_due S w x = or_else (when (mixed S x && ample_by S.rule (speaks x 3)) 0) (shared_due S w 3 x)

abbrev pub fifth_due : Setting → Vote → Seen → Option ℕ
fifth_due S w x = or_else (shared_due S w 4 x) (when (mixed S x && ample_by S.rule (speaks x 4)) 0)

-- the decision of the test 7 at grade 1: if mixed and all kind 5 senders are ample, that for the lowest backed character
abbrev pub held : Setting → Seen → Option Decision
held S x = cond (mixed S x && ample_by S.rule (speaks x 5)) (decides 1 (lowest S (backed S x))) None

-- What is due of the test 7, where it found nothing before: a character that is the value of w comes before what is held, and 0 after it.
abbrev pub verdict_due : Setting → Vote → Seen → Option Decision
verdict_due S w x = cond (w.value == 0) (or_else (held S x) (decides 2 (shared_due S w 5 x))) (or_else (decides 2 (shared_due S w 5 x)) (held S x))
