-- What a started board answers to a frame, and the slip that goes with the answer. Assumes nothing.
use Rattle.std.specs.Prelude.{◌≡◌, ℕ, List, Some, None, Ok, Option}
use Rattle.quorum.specs.Rules.{Rule}
use Rattle.vote.specs.declared.News.{News}
use Rattle.vote.specs.declared.Vote.{Vote}
use Rattle.wire.specs.declared.posted.Posted.{Posted}
use Rattle.wire.specs.declared.word.Word.{Word}
use Rattle.wire.specs.Frames.{frame_of}
use Rattle.wire.specs.Slips.{none_posted}
use Rattle.board.specs.declared.fit.Fit.{Fit}
use Rattle.board.specs.declared.record.Record.{Record}
use Rattle.board.specs.declared.answer.Taken.{Taken}
use Rattle.board.specs.declared.answer.Taken.TheVariants.{Counted, Again}
use Rattle.vote.specs.News.{first_news}
use Rattle.board.specs.Shown.{setting_of, method_of, record_of, answer_of, with_vote}
use Rattle.board.specs.Taking.{word_taken, vote_of}

-- the words of the news, under the board's address
abbrev pub posted_of : Fit → News → Posted
posted_of f n = record { group = f.group; change = f.change; sender = f.board; kinds = n.kinds }

-- the words that a board posts at its start
unfoldable pub first_posted : Rule → Fit → Posted
first_posted R f = posted_of f (first_news (method_of f.method (setting_of R f)) f.start)

abbrev pub told_of : Option News → Taken
told_of None = Again
told_of (Some n) = Counted

-- the words on the slip: those newly posted, and none where the vote is counted already
abbrev pub slip_of : Fit → Option News → Posted
slip_of f None = none_posted f.group f.change f.board
slip_of f (Some n) = posted_of f n

-- The vote w is counted: where the record o shows a history, p shows it with w, and the answer and the slip say what is new.
pub record Took (R : Rule) (f : Fit) (o p : Record) (told : Taken) (slip : Posted) (w : Vote) (h : List Vote) : Type 0 where
  pub shows : p ≡ record_of R f (with_vote f.method h w)
  pub tells : told ≡ told_of (answer_of R f h w)
  pub slips : slip ≡ slip_of f (answer_of R f h w)

-- an accepted frame is the one of its word, and its vote is counted
abbrev pub Accepts : Rule → Fit → ℕ → List ℕ → Record → Record → Taken → Posted → Type 0
Accepts R f port xs o p told slip =
    (w : Word) × (word_taken R f port xs ≡ Ok w) × ((h : List Vote) → o ≡ record_of R f h → Took R f o p told slip (vote_of w) h) × (xs ≡ frame_of w)
