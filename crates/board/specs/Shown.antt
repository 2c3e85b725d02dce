-- What a started board's record holds for what it has counted, by its method, and what one vote more makes of it. Assumes nothing.
use Rattle.std.specs.Prelude.{◌≡◌, ℕ, Bool, cond, List, ◌∷◌, Some, None, Option}
use Rattle.quorum.specs.Rules.{Rule}
use Rattle.vote.specs.declared.Decision.{Decision}
use Rattle.vote.specs.declared.Method.{Method}
use Rattle.vote.specs.declared.Method.TheVariants.{Plain, Echo}
use Rattle.vote.specs.declared.News.{News}
use Rattle.vote.specs.declared.Vote.{Vote}
use Rattle.vote.specs.Setting.{Setting}
pub use Rattle.agreement.specs.Methods.{method_of}
use Rattle.vote.specs.News.{news_of}
use Rattle.heard.specs.Repeats as echo_counts
use Rattle.echo_board.specs.Records as echo_board
use Rattle.plain_board.specs.Shown as plain_board
use Rattle.plain_board.specs.Step as plain_counts
use Rattle.board.specs.declared.fit.Fit.{Fit}
use Rattle.board.specs.declared.record.Record.{Record}
use Rattle.board.specs.declared.record.Record.TheVariants.{Gathers, Echoes}

-- what is settled, by the rule and the fit
abbrev pub setting_of : Rule → Fit → Setting
setting_of R f = record { rule = R; characters = f.characters; depth = f.depth }

abbrev pub repeats : Method → List Vote → Vote → Bool
repeats Plain h w = plain_counts.repeats h w
repeats Echo h w = echo_counts.repeats h w

-- the history once w has come: a vote that is counted already changes nothing
abbrev pub with_vote : Method → List Vote → Vote → List Vote
with_vote m h w = cond (repeats m h w) h (w ∷ h)

abbrev pub record_by : Method → Setting → ℕ → List Vote → Record
record_by Plain S s h = Gathers (plain_board.record_of S h)
record_by Echo S s h = Echoes (echo_board.record_of S s h)

-- the record of a board that has counted h
unfoldable pub record_of : Rule → Fit → List Vote → Record
record_of R f h = record_by f.method (setting_of R f) f.start h

-- what is newly posted, or nothing where the vote is counted already
abbrev pub answer_by : Method → Setting → ℕ → List Vote → Vote → Option News
answer_by m S s h w = cond (repeats m h w) None (Some (news_of (method_of m S) s h w))

unfoldable pub answer_of : Rule → Fit → List Vote → Vote → Option News
answer_of R f h w = answer_by f.method (setting_of R f) f.start h w

-- Counting w leads from the record o to the record p and answers r: where o shows a history, p shows it with w, and r says what is new.
abbrev pub Counts : Rule → Fit → Vote → Record → Record → Option News → Type 0
Counts R f w o p r = (h : List Vote) → o ≡ record_of R f h → (p ≡ record_of R f (with_vote f.method h w)) × (r ≡ answer_of R f h w)

-- r is what a board with the record o has decided, by its method's definition, of any history that the record shows
abbrev pub Decides : Rule → Fit → Record → Option Decision → Type 0
Decides R f o r = (h : List Vote) → o ≡ record_of R f h → r ≡ (method_of f.method (setting_of R f)).decided h
