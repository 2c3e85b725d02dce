-- One step on a record, as the code takes it: what the tests find now, what is kept of it, and what is new. Assumes nothing.
use Rattle.std.specs.Prelude.{ℕ, ◌-◌, cond, not, ◌&&◌, ◌||◌, Bool, [], ◌∷◌, None, Option, ◌==◌, bit_and, bit_or}
use Rattle.vote.specs.declared.Decision.{Decision}
use Rattle.vote.specs.declared.Depth.{Depth}
use Rattle.vote.specs.declared.Depth.TheVariants.{One, Two}
use Rattle.vote.specs.declared.News.{News}
use Rattle.vote.specs.declared.Vote.{Vote}
use Rattle.vote.specs.History.{Seen}
use Rattle.vote.specs.Search.{or_else, is}
use Rattle.vote.specs.Setting.{Setting}
use Rattle.agreement.specs.Echo.{decides, second}
use Rattle.vote.specs.News.{values}
use Rattle.heard.specs.Due.{approves, echo_due, third_due, outcome_due, fifth_due, verdict_due}
use Rattle.echo_board.specs.declared.findings.Findings.{Findings}

-- the decision is made of votes of the kind c, and of what is approved
abbrev pub decides_by : Depth → ℕ → Bool
decides_by One c = c == 3
decides_by Two c = c == 4 || c == 5

-- the kinds 4 and 5 are of depth 2
abbrev pub at_two : {A : Type 0} → Depth → Option A → Option A
at_two One o = None
at_two Two o = o

-- what is due of the decision, which at depth 1 is the outcome
abbrev pub decision_due : Setting → Depth → Vote → Seen → Option Decision
decision_due S One w x = decides 1 (outcome_due S w x)
decision_due S Two w x = verdict_due S w x

-- What is made of the seven tests once the vote w is counted: what is held in o, and otherwise what is due of those that look at something that w has changed; of the echoes what is due alone.
-- Only an echo can make an echo due; the others look at the votes of a kind, and at what is approved.
abbrev pub completing : Setting → Vote → Seen → Findings → Findings
completing S w x o = record {
  echoes = cond (w.kind == 1) (values (echo_due S w o.echoes x)) 0;
  second = or_else o.second (cond (approves S w x) (second S x) None);
  third = or_else o.third (cond (approves S w x || w.kind == 2) (third_due S w x) None);
  fourth = or_else o.fourth (at_two S.depth (cond (approves S w x || w.kind == 3) (outcome_due S w x) None));
  fifth = or_else o.fifth (at_two S.depth (cond (approves S w x || w.kind == 4) (fifth_due S w x) None));
  decision = or_else o.decision (cond (approves S w x || decides_by S.depth w.kind) (decision_due S S.depth w x) None);
}

-- what was there stays, and what was not is as found
abbrev pub remembering : Findings → Findings → Findings
remembering o f = record {
  echoes = bit_or o.echoes f.echoes;
  second = or_else o.second f.second;
  third = or_else o.third f.third;
  fourth = or_else o.fourth f.fourth;
  fifth = or_else o.fifth f.fifth;
  decision = or_else o.decision f.decision;
}

-- the value that the word bears, if there is one, as a set
unfoldable pub word_set : Option ℕ → ℕ
word_set o = values (λ v. is v o)

-- the value that is there now and was not before, as a set
unfoldable pub fresh : Option ℕ → Option ℕ → ℕ
fresh before now = values (λ v. is v (or_else before now) && not (is v before))

abbrev pub news_in : Findings → Findings → News
news_in o f = record {
  kinds = (f.echoes - bit_and f.echoes o.echoes) ∷ fresh o.second f.second ∷ fresh o.third f.third ∷ fresh o.fourth f.fourth ∷ fresh o.fifth f.fifth ∷ [];
}
