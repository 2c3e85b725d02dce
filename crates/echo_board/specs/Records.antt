-- What a board's record holds for what the board has counted, and what counting a vote owes. Assumes nothing.
use Rattle.std.specs.Prelude.{◌≡◌, ℕ, cond, List, Some, None, Option}
use Rattle.vote.specs.declared.News.{News}
use Rattle.vote.specs.declared.Vote.{Vote}
use Rattle.vote.specs.History.{seen}
use Rattle.vote.specs.Setting.{Setting}
use Rattle.agreement.specs.Echo.{said, echoed, decided, echo}
use Rattle.vote.specs.News.{values, news_of}
use Rattle.heard.specs.Repeats.{repeats, with_vote}
use Rattle.heard.specs.Shown.{heard_of}
use Rattle.echo_board.specs.declared.board.EchoRecord.{EchoRecord}
use Rattle.echo_board.specs.declared.findings.Findings.{Findings}

-- what a board that started with a character and has counted h holds of the tests
abbrev pub held_of : Setting → ℕ → List Vote → Findings
held_of S start h = record {
  echoes = values (echoed S start h);
  second = said S h 2;
  third = said S h 3;
  fourth = said S h 4;
  fifth = said S h 5;
  decision = decided S h;
}

-- its record
unfoldable pub record_of : Setting → ℕ → List Vote → EchoRecord
record_of S start h = record { heard = heard_of S.rule.crew (seen h); held = held_of S start h }

-- what is answered to a vote: nothing where it is counted already, else the words newly posted
unfoldable pub answer_of : Setting → ℕ → List Vote → Vote → Option News
answer_of S start h w = cond (repeats h w) None (Some (news_of (echo S) start h w))

-- Counting w leads from the record o to the record p and answers r: where o shows a history, p shows it with w, and r says what is new.
abbrev pub Counts : Setting → Vote → EchoRecord → EchoRecord → Option News → Type 0
Counts S w o p r = (start : ℕ) (h : List Vote) → o ≡ record_of S start h → (p ≡ record_of S start (with_vote h w)) × (r ≡ answer_of S start h w)
