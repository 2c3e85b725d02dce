-- What becomes of a plain board's history as a vote comes, and what the board answers. Assumes nothing.
use Rattle.std.specs.Prelude.{◌≡◌, ℕ, ◌^◌, Bool, cond, List, [], ◌∷◌, Some, None, Option, ◌==◌}
use Rattle.vote.specs.declared.Depth.{Depth}
use Rattle.vote.specs.declared.Depth.TheVariants.{One, Two}
use Rattle.vote.specs.declared.News.{News}
use Rattle.vote.specs.declared.Vote.{Vote}
use Rattle.vote.specs.History.{seen, speaks}
use Rattle.vote.specs.Setting.{Setting}
use Rattle.agreement.specs.Plain.{plain}
use Rattle.vote.specs.News.{no_news, news_of}
use Rattle.plain_board.specs.declared.record.PlainRecord.{PlainRecord}
use Rattle.heard.specs.declared.tally.Tally.{Tally}
use Rattle.heard.specs.Masks.{added}
use Rattle.plain_board.specs.Shown.{record_of}

-- a vote of this kind and sender is in the history: only the first of each counts
abbrev pub repeats : List Vote → Vote → Bool
repeats h w = speaks (seen h) w.kind w.sender

-- the senders of the votes of kind c
abbrev pub of_kind : ℕ → PlainRecord → Tally
of_kind c o = cond (c == 1) o.first o.second

-- the record with w's sender among those of its kind
abbrev pub noted : PlainRecord → Vote → PlainRecord
noted o w = record {
  stage = o.stage;
  first = cond (w.kind == 1) (added o.first w.value w.sender) o.first;
  second = cond (w.kind == 1) o.second (added o.second w.value w.sender);
}

-- the history once w has come
unfoldable pub taken : List Vote → Vote → List Vote
taken h w = cond (repeats h w) h (w ∷ h)

-- nothing where w repeats, and otherwise the words newly posted, perhaps none
unfoldable pub answer_of : Setting → ℕ → List Vote → Vote → Option News
answer_of S start h w = cond (repeats h w) None (Some (news_of (plain S) start h w))

-- From a record that shows a history, w leads to one that shows it with w, and r is the answer, whatever character the board started with.
unfoldable pub Counts : Setting → Vote → PlainRecord → PlainRecord → Option News → Type 0
Counts S w entry exit r =
    (h : List Vote) → entry ≡ record_of S h → (exit ≡ record_of S (taken h w)) × ((start : ℕ) → r ≡ answer_of S start h w)

-- a branch that is just fixed is posted at depth 2
abbrev pub branch_news : Depth → ℕ → News
branch_news One b = no_news
branch_news Two b = record { kinds = 0 ∷ 2 ^ b ∷ 0 ∷ 0 ∷ 0 ∷ [] }
