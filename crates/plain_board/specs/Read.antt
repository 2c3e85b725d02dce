-- What a board reads off its tallies: the character that all bear, the lowest that some bear, and the verdict on a branch. Assumes nothing.
use Rattle.std.specs.Prelude.{◌≡◌, ℕ, ◌≤◌, Bool, not, ◌&&◌, Some, Option, ◌==◌, slice_index}
use Rattle.std.specs.Option.{unwrap_or}
use Rattle.quorum.specs.Rules.{ample_by}
use Rattle.vote.specs.declared.Decision.{Decision}
use Rattle.vote.specs.declared.Depth.{Depth}
use Rattle.vote.specs.declared.Depth.TheVariants.{One, Two}
use Rattle.vote.specs.History.{Seen, speaks}
use Rattle.vote.specs.Search.{when}
use Rattle.vote.specs.Setting.{Setting, decision_on, lowest}
use Rattle.agreement.specs.Plain.{all_say, some_says, compared}
use Rattle.plain_board.specs.declared.stage.Stage.{Stage}
use Rattle.heard.specs.declared.tally.Tally.{Tally}
use Rattle.plain_board.specs.Limits.{max_value}
use Rattle.plain_board.specs.Shown.{tally_of, stage_of}

-- every sender in the tally bears v
abbrev pub agreed : Tally → ℕ → Bool
agreed t v = slice_index t.values v == t.all

-- the lowest character that all votes of kind c bear, or 0
unfoldable pub common_of : Setting → Seen → ℕ → ℕ
common_of S x c = unwrap_or (lowest S (λ v. not (v == 0) && all_say S x c v)) 0

-- the lowest character that some vote of kind c bears, or 0
unfoldable pub least_of : Setting → Seen → ℕ → ℕ
least_of S x c = unwrap_or (lowest S (λ v. not (v == 0) && some_says S x c v)) 0

-- r is what q reads, with k characters, off all that the tally can show
abbrev pub Reads : ℕ → (Setting → Seen → ℕ → ℕ) → Tally → ℕ → Type 0
Reads k q t r = (S : Setting) (x : Seen) (c : ℕ) → S.characters ≡ k → t ≡ tally_of S.rule.crew x c → r ≡ q S x c

-- the decision of a board with branch b, if there is one
unfoldable pub verdict_on : Setting → Depth → ℕ → Seen → Option Decision
verdict_on S One b x = Some (decision_on 1 b)
verdict_on S Two b x = when (ample_by S.rule (speaks x 2)) (compared S b x)

-- from a tally that shows the votes of kind 2, s is the stage of a board with branch b
abbrev pub StageOn : Setting → ℕ → Tally → Stage → Type 0
StageOn S b t s = (x : Seen) → b ≤ max_value → t ≡ tally_of S.rule.crew x 2 → s ≡ stage_of (Some b) (verdict_on S S.depth b x)
