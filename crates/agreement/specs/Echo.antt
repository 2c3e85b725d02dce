-- The echo method: listed boards may say anything. Assumes nothing.
use Rattle.std.specs.Prelude.{ℕ, zero, suc, Bool, true, false, cond, not, ◌&&◌, ◌||◌, List, Some, None, Option, ◌==◌, nat_le}
use Rattle.quorum.specs.Rules.{Rule, strong_by, ample_by}
use Rattle.vote.specs.declared.Decision.{Decision}
use Rattle.vote.specs.declared.Depth.{Depth}
use Rattle.vote.specs.declared.Depth.TheVariants.{One, Two}
use Rattle.vote.specs.declared.Vote.{Vote}
use Rattle.vote.specs.History.{Seen, seen, says, speaks, memo, ever}
use Rattle.vote.specs.Search.{or_else, when, given, is, some_below, all_below}
use Rattle.vote.specs.Setting.{Setting, decision_on, lowest, Protocol}
pub mod Played

-- an opening that is there and is not u
abbrev pub other : ℕ → Option ℕ → Bool
other u None = false
other u (Some v) = not (u == v)

abbrev pub decides : ℕ → Option ℕ → Option Decision
decides g None = None
decides g (Some v) = Some (decision_on g v)

module _ (S : Setting) where
  -- a value is approved whose echo senders are ample
  unfoldable pub approved : Seen → ℕ → Bool
  approved x v = ample_by S.rule (x.echo v)

  unfoldable pub two_approved : Seen → Bool
  two_approved x = given (lowest S (λ u. approved x u && given (lowest S (λ v. approved x v && not (u == v)))))

  -- mixed: 0 is approved, or any two values are
  unfoldable pub mixed : Seen → Bool
  mixed x = approved x 0 || two_approved x

  -- for every value u, 0 too, the senders whose opening is not u are strong
  unfoldable pub parted : Seen → Bool
  parted x = all_below (suc S.characters) (λ u. strong_by S.rule (λ i. other u (x.first 1 i)))

  -- tests 1 and 2: the echo of v is posted where its senders are strong, and that of 0 also where the openings are parted
  unfoldable pub echoes : ℕ → Seen → Bool
  echoes v x = strong_by S.rule (x.echo v) || (v == 0 && parted x)

  -- test 3: kind 2 bears the first approved value
  unfoldable pub second : Seen → Option ℕ
  second x = lowest S (approved x)

  -- test 4: kind 3 bears the value whose kind 2 senders are ample; otherwise, with two values approved, 0
  unfoldable pub third : Seen → Option ℕ
  third x = or_else (lowest S (λ v. ample_by S.rule (says x 2 v))) (when (two_approved x) 0)

  -- test 5: the outcome is 0 if mixed and all kind 3 senders together are ample; otherwise the value whose kind 3 senders are ample
  unfoldable pub outcome : Seen → Option ℕ
  outcome x = or_else (when (mixed x && ample_by S.rule (speaks x 3)) 0) (lowest S (λ v. ample_by S.rule (says x 3 v)))

  -- test 6: kind 5 bears the value whose kind 4 senders are ample; otherwise, if mixed and all kind 4 senders are ample, 0
  unfoldable pub fifth : Seen → Option ℕ
  fifth x = or_else (lowest S (λ v. ample_by S.rule (says x 4 v))) (when (mixed x && ample_by S.rule (speaks x 4)) 0)

  -- what the tests post in the kinds 2 to 5; kind 4 bears the outcome, and it and kind 5 are of depth 2
  unfoldable pub found : Depth → ℕ → Seen → Option ℕ
  found d zero x = None
  found d (suc zero) x = None
  found d (suc (suc zero)) x = second x
  found d (suc (suc (suc zero))) x = third x
  found One (suc (suc (suc (suc c)))) x = None
  found Two (suc (suc (suc (suc zero)))) x = outcome x
  found Two (suc (suc (suc (suc (suc zero))))) x = fifth x
  found Two (suc (suc (suc (suc (suc (suc c)))))) x = None

  -- a character with a kind 5 sender and strong kind 4 senders
  unfoldable pub backed : Seen → ℕ → Bool
  backed x w = not (w == 0) && some_below S.rule.crew (says x 5 w) && strong_by S.rule (says x 4 w)

  -- tests 5 and 7: (v, 2) where the kind 5 senders of a character are ample; otherwise, if mixed and all kind 5 senders are ample, (w, 1) for the lowest
  -- backed character, if any; otherwise (0, 0) where the kind 5 senders of 0 are ample
  unfoldable pub verdict : Depth → Seen → Option Decision
  verdict One x = decides 1 (outcome x)
  verdict Two x =
      or_else (decides 2 (lowest S (λ v. not (v == 0) && ample_by S.rule (says x 5 v))))
      (or_else (cond (mixed x && ample_by S.rule (speaks x 5)) (decides 1 (lowest S (backed x))) None)
      (when (ample_by S.rule (says x 5 0)) (decision_on 0 0)))

  -- what a board has posted and decided, that started with a character and has counted h
  unfoldable pub said : List Vote → ℕ → Option ℕ
  said h c = memo (λ g. found S.depth c (seen g)) h

  unfoldable pub echoed : ℕ → List Vote → ℕ → Bool
  echoed start h v = v == start || (nat_le v S.characters && ever (λ g. echoes v (seen g)) h)

  unfoldable pub posts : ℕ → List Vote → ℕ → ℕ → Bool
  posts start h c v = cond (c == 1) (echoed start h v) (is v (said h c))

  unfoldable pub decided : List Vote → Option Decision
  decided h = memo (λ g. verdict S.depth (seen g)) h

  abbrev pub echo : Protocol
  echo = record { posts = posts; decided = decided; may_lie = true }
