-- What a plain board can decide: a character that there is, or none, with a grade that there is. Assumes nothing.
use Rattle.std.proofs.Common.{◌≡◌, ℕ, zero, suc, ◌≤◌, Bool, true, false, cond, not, ◌&&◌, eqb, List, Some, None, Option, refl, subst, zero-le, arith}
use Rattle.quorum.specs.Rules.{ample_by}
use Rattle.vote.specs.declared.Decision.{Decision}
use Rattle.vote.specs.declared.Depth.{Depth}
use Rattle.vote.specs.declared.Depth.TheVariants.{One, Two}
use Rattle.vote.specs.declared.Vote.{Vote}
use Rattle.vote.specs.History.{Seen, seen, speaks}
use Rattle.vote.specs.Search.{seek, when}
use Rattle.vote.specs.Setting.{Setting, decision_on, lowest}
use Rattle.agreement.specs.Plain.{all_say, some_says, compared, decided}
use Rattle.agreement.proofs.Plain.Branches.{branch_bounded}
use Rattle.plain_board.specs.Read.{verdict_on}
use Rattle.plain_board.proofs.Memory.{decided_when}
use Rattle.vote.proofs.Options.{holds_none}
use Rattle.vote.proofs.Grades.{FitsIn, graded_fits}
use Rattle.vote.proofs.Seeking.{seek_found}

module _ (S : Setting) where
  grade_low : (a : Bool) → cond a 2 1 ≤ 2
  grade_low true = omega arith
  grade_low false = omega arith

  compared_fits : (b : ℕ) (x : Seen) → b ≤ S.characters → FitsIn S Two (compared S b x)
  unfolding compared lowest
  compared_fits zero x low = found_fits (seek (suc S.characters) (λ v. not (eqb v 0) && some_says S x 2 v)) (λ v e. let k = (seek_found (suc S.characters) _ v e).0 in omega arith)
    where
      found_fits : (o : Option ℕ) → ((v : ℕ) → o ≡ Some v → v ≤ S.characters) → FitsIn S Two (elim o [ None ↦ decision_on 1 0 | Some v ↦ decision_on 1 v ])
      found_fits None f = (zero-le, zero-le)
      found_fits (Some v) f = graded_fits S Two 1 v (omega arith) (f v refl)
  compared_fits (suc b) x low = graded_fits S Two (cond (all_say S x 2 (suc b)) 2 1) (suc b) (grade_low (all_say S x 2 (suc b))) low

  verdict_fits : (d : Depth) (b : ℕ) (x : Seen) (y : Decision) → b ≤ S.characters → verdict_on S d b x ≡ Some y → FitsIn S d y
  unfolding verdict_on
  verdict_fits One b x y low e = let k : decision_on 1 b ≡ y = cc in subst (FitsIn S One) k (graded_fits S One 1 b (omega arith) low)
  verdict_fits Two b x y low e = by_ample (ample_by S.rule (speaks x 2)) e
    where
      by_ample : (a : Bool) → when a (compared S b x) ≡ Some y → FitsIn S Two y
      by_ample true q = let k : compared S b x ≡ y = cc in subst (FitsIn S Two) k (compared_fits b x low)
      by_ample false q = holds_none q

  pub decided_fits : (h : List Vote) (y : Decision) → decided S h ≡ Some y → FitsIn S S.depth y
  decided_fits h y e = let k = decided_when S h y e in verdict_fits S.depth k.1 (seen k.0) y (branch_bounded S k.0 k.1 k.2) k.3
