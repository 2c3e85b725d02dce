-- The plain method: boards only fall silent. Assumes nothing.
use Rattle.std.specs.Prelude.{ℕ, zero, suc, Bool, false, cond, not, ◌&&◌, ◌||◌, List, Some, None, Option, ◌==◌}
use Rattle.quorum.specs.Rules.{Rule, ample_by}
use Rattle.vote.specs.declared.Decision.{Decision}
use Rattle.vote.specs.declared.Depth.{Depth}
use Rattle.vote.specs.declared.Depth.TheVariants.{One, Two}
use Rattle.vote.specs.declared.Vote.{Vote}
use Rattle.vote.specs.History.{Seen, seen, says, speaks, memo}
use Rattle.vote.specs.Search.{or_else, when, is, some_below, all_below}
use Rattle.vote.specs.Setting.{Setting, decision_on, lowest, Protocol}
pub mod Played

module _ (S : Setting) where
  -- every vote counted of kind c bears v
  unfoldable pub all_say : Seen → ℕ → ℕ → Bool
  all_say x c v = all_below S.rule.crew (λ i. not (speaks x c i) || says x c v i)

  -- some vote counted of kind c bears v
  unfoldable pub some_says : Seen → ℕ → ℕ → Bool
  some_says x c v = some_below S.rule.crew (says x c v)

  -- The branch is fixed when the senders of kind 1 are first ample: the character that all their votes bear, otherwise 0.
  unfoldable pub branch_found : List Vote → Option ℕ
  branch_found h = cond (ample_by S.rule (speaks (seen h) 1)) (or_else (lowest S (λ v. not (v == 0) && all_say (seen h) 1 v)) (Some 0)) None

  unfoldable pub branch : List Vote → Option ℕ
  branch h = memo branch_found h

  -- With branch 0: the lowest character among the votes of kind 2, with grade 1, or none. With a character: grade 2 if all these votes bear it, otherwise 1.
  unfoldable pub compared : ℕ → Seen → Decision
  compared zero x = elim (lowest S (λ v. not (v == 0) && some_says x 2 v)) [ None ↦ decision_on 1 0 | Some v ↦ decision_on 1 v ]
  compared (suc v) x = decision_on (cond (all_say x 2 (suc v)) 2 1) (suc v)

  -- at depth 1 the branch decides; at depth 2 the votes of kind 2 do, as soon as their senders are ample and the branch is fixed
  unfoldable pub decision_found : Depth → List Vote → Option Decision
  decision_found One h = elim (branch h) [ None ↦ None | Some b ↦ Some (decision_on 1 b) ]
  decision_found Two h = elim (branch h) [ None ↦ None | Some b ↦ when (ample_by S.rule (speaks (seen h) 2)) (compared b (seen h)) ]

  unfoldable pub decided : List Vote → Option Decision
  decided h = memo (decision_found S.depth) h

  -- kind 2 is posted at depth 2 only
  abbrev pub branch_posted : Depth → List Vote → Option ℕ
  branch_posted One h = None
  branch_posted Two h = branch h

  unfoldable pub posts : ℕ → List Vote → ℕ → ℕ → Bool
  posts start h c v = cond (c == 1) (v == start) (c == 2 && is v (branch_posted S.depth h))

  abbrev pub plain : Protocol
  plain = record { posts = posts; decided = decided; may_lie = false }
