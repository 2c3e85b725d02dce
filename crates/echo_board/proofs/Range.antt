-- The words posted and the decisions have numbers in range. Assumes nothing.
use Rattle.std.proofs.Common.{◌≡◌, ℕ, zero, suc, ◌≤◌, Bool, true, false, cond, not, ◌&&◌, eqb, leb, List, Some, None, Option, refl, ⊎_elim, arith}
use Rattle.std.proofs.lemmas.Bool.{and_parts, or_cases, eqb-true, leb-true}
use Rattle.quorum.specs.Rules.{ample_by}
use Rattle.vote.specs.declared.Decision.{Decision}
use Rattle.vote.specs.declared.Depth.{Depth}
use Rattle.vote.specs.declared.Depth.TheVariants.{One, Two}
use Rattle.vote.specs.declared.Vote.{Vote}
use Rattle.vote.specs.History.{Seen, seen, says, speaks}
use Rattle.vote.specs.Search.{or_else, when, is}
use Rattle.vote.specs.Setting.{Setting, lowest, decision_on, grades}
use Rattle.agreement.proofs.Echo.Bounds.{low, zero_low, low_or_zero}
use Rattle.agreement.specs.Echo.{decides, second, third, outcome, fifth, found, mixed, backed, verdict, said, echoed, decided, posts}
use Rattle.vote.proofs.Options.{is_found, holds_one, holds_none, else_cases, when_found}
use Rattle.vote.proofs.Grades.{FitsIn, graded_fits}
use Rattle.vote.proofs.Memories.{memo_sound}
use Rattle.echo_board.specs.Laws.{last_kind}

module _ (S : Setting) where
  outcome_low : (x : Seen) (v : ℕ) → outcome S x ≡ Some v → v ≤ S.characters
  unfolding outcome
  outcome_low x v h = ⊎_elim (zero_low S _ v) (low S _ v) (else_cases (when _ 0) _ v h)

  -- ---- words
  found_low : (d : Depth) (c : ℕ) (x : Seen) (v : ℕ) → found S d c x ≡ Some v → (1 ≤ c) × (c ≤ last_kind d) × (v ≤ S.characters)
  unfolding found second third fifth
  found_low d zero x v h = holds_none h
  found_low d (suc zero) x v h = holds_none h
  found_low One (suc (suc zero)) x v h = (omega arith, omega arith, low S _ v h)
  found_low Two (suc (suc zero)) x v h = (omega arith, omega arith, low S _ v h)
  found_low One (suc (suc (suc zero))) x v h = (omega arith, omega arith, low_or_zero S _ _ v h)
  found_low Two (suc (suc (suc zero))) x v h = (omega arith, omega arith, low_or_zero S _ _ v h)
  found_low One (suc (suc (suc (suc c)))) x v h = holds_none h
  found_low Two (suc (suc (suc (suc zero)))) x v h = (omega arith, omega arith, outcome_low x v h)
  found_low Two (suc (suc (suc (suc (suc zero))))) x v h = (omega arith, omega arith, low_or_zero S _ _ v h)
  found_low Two (suc (suc (suc (suc (suc (suc c)))))) x v h = holds_none h

  echo_low : (start : ℕ) (h : List Vote) (v : ℕ) → start ≤ S.characters → echoed S start h v ≡ true → v ≤ S.characters
  unfolding echoed
  echo_low start h v l q = ⊎_elim (λ e. omega (arith, eqb-true v start e)) (λ e. leb-true _ _ (and_parts (leb v S.characters) _ e).0) (or_cases (eqb v start) _ q)

  first_kind : (d : Depth) (c : ℕ) → c ≡ 1 → (1 ≤ c) × (c ≤ last_kind d)
  first_kind One c e = (omega arith, omega arith)
  first_kind Two c e = (omega arith, omega arith)

  pub words_in_range : (start : ℕ) (h : List Vote) (c v : ℕ) → start ≤ S.characters → posts S start h c v ≡ true → (1 ≤ c) × (c ≤ last_kind S.depth) × (v ≤ S.characters)
  unfolding posts said
  words_in_range start h c v l p = go (eqb c 1) refl p
    where
      go : (b : Bool) → eqb c 1 ≡ b → cond b (echoed S start h v) (is v (said S h c)) ≡ true → (1 ≤ c) × (c ≤ last_kind S.depth) × (v ≤ S.characters)
      go true e q = let k = first_kind S.depth c (eqb-true c 1 e) in (k.0, k.1, echo_low start h v l q)
      go false e q =
          memo_sound (λ g. found S S.depth c (seen g)) (λ _ v. (1 ≤ c) × (c ≤ last_kind S.depth) × (v ≤ S.characters))
          (λ h v. found_low S.depth c (seen h) v) (λ w h v k. k) h v (is_found v _ q)

  -- ---- decisions
  decides_low : (d : Depth) (g : ℕ) (o : Option ℕ) → g ≤ grades d → ((v : ℕ) → o ≡ Some v → v ≤ S.characters) → (x : Decision) → decides g o ≡ Some x → FitsIn S d x
  decides_low d g None p f x h = holds_none h
  decides_low d g (Some v) p f x h = let e : decision_on g v ≡ x = holds_one refl h in rw e at (graded_fits S d g v p (f v refl))

  when_low : (d : Depth) (b : Bool) (x : Decision) → when b (decision_on 0 0) ≡ Some x → FitsIn S d x
  when_low d b x h = let e : x ≡ decision_on 0 0 = (when_found b (decision_on 0 0) x h).1 in rw e (graded_fits S d 0 0 (omega arith) (omega arith))

  cond_low : (d : Depth) (b : Bool) (o : Option Decision) (x : Decision) → ((x : Decision) → o ≡ Some x → FitsIn S d x) → cond b o None ≡ Some x → FitsIn S d x
  cond_low d true o x f h = f x h
  cond_low d false o x f h = holds_none h

  -- the three ways of the test 7
  ways_low : (p q : ℕ → Bool) (a b : Bool) (y : Decision)
      → or_else (decides 2 (lowest S p)) (or_else (cond a (decides 1 (lowest S q)) None) (when b (decision_on 0 0))) ≡ Some y → FitsIn S Two y
  ways_low p q a b y h =
      ⊎_elim (decides_low Two 2 (lowest S p) (omega arith) (low S p) y)
      (λ e. ⊎_elim (cond_low Two a (decides 1 (lowest S q)) y (decides_low Two 1 (lowest S q) (omega arith) (low S q))) (when_low Two b y)
      (else_cases (cond a (decides 1 (lowest S q)) None) (when b (decision_on 0 0)) y e))
      (else_cases (decides 2 (lowest S p)) (or_else (cond a (decides 1 (lowest S q)) None) (when b (decision_on 0 0))) y h)

  verdict_low : (d : Depth) (x : Seen) (y : Decision) → verdict S d x ≡ Some y → FitsIn S d y
  unfolding verdict
  verdict_low One x y h = decides_low One 1 (outcome S x) (omega arith) (outcome_low x) y h
  verdict_low Two x y h =
      ways_low (λ v. not (eqb v 0) && ample_by S.rule (says x 5 v)) (backed S x) (mixed S x && ample_by S.rule (speaks x 5)) (ample_by S.rule (says x 5 0)) y h

  pub decision_in_range : (h : List Vote) (d : Decision) → decided S h ≡ Some d → FitsIn S S.depth d
  unfolding decided
  decision_in_range h d p = memo_sound (λ g. verdict S S.depth (seen g)) (λ _ d. FitsIn S S.depth d) (λ h v. verdict_low S.depth (seen h) v) (λ w h v k. k) h d p
