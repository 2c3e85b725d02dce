-- What the record of a plain board shows of the words that the board has counted. Assumes nothing.
use Rattle.std.specs.Prelude.{ℕ, List, Some, None, Option}
use Rattle.vote.specs.declared.Decision.{Decision}
use Rattle.vote.specs.declared.Vote.{Vote}
use Rattle.vote.specs.History.{Seen, seen}
use Rattle.vote.specs.Setting.{Setting}
use Rattle.agreement.specs.Plain.{branch, decided}
pub use Rattle.heard.specs.Shown.{setting, setting_in}
use Rattle.heard.specs.Shown.{tally_of as tally_in}
use Rattle.heard.specs.declared.tally.Tally.{Tally}
use Rattle.plain_board.specs.declared.stage.Stage.{Stage}
use Rattle.plain_board.specs.declared.stage.Stage.TheVariants.{Gathering, Comparing, Decided}
use Rattle.plain_board.specs.declared.record.PlainRecord.{PlainRecord}

-- the senders of kind c in a crew of n, by the value of their first vote, and all
abbrev pub tally_of : ℕ → Seen → ℕ → Tally
tally_of n x c = tally_in n (x.first c)

-- gathering until there is a branch, comparing until there is a decision
abbrev pub stage_of : Option ℕ → Option Decision → Stage
stage_of None d = Gathering
stage_of (Some b) None = Comparing b
stage_of (Some b) (Some d) = Decided b d

-- the record of a board that has counted h
unfoldable pub record_of : Setting → List Vote → PlainRecord
record_of S h = record {
  stage = stage_of (branch S h) (decided S h);
  first = tally_of S.rule.crew (seen h) 1;
  second = tally_of S.rule.crew (seen h) 2;
}
