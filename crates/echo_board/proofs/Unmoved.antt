-- What is due of a test once a vote is counted is all that the test finds, where it found nothing before. Assumes nothing but that the rule is lawful and has a cover.
use Rattle.std.proofs.Common.{◌≡◌, ℕ, suc, ◌<◌, ◌≤◌, Bool, true, false, cond, not, ◌&&◌, ◌||◌, eqb, List, [], ◌∷◌, Some, None, Option, sym, refl, ap, ◌∙◌, ap₂, subst, ⊎_elim, arith}
use mathlib.Core.Path.{fun_ext}
use mathlib.Core.Bool.{and-false, or-false}
use Rattle.std.proofs.lemmas.Bool.{and_from, and_parts, or_cases, or_parts, not-true, not-false, ne_eqb, eqb-false, eq-eqb, cases_eq}
use Rattle.quorum.specs.Rules.{Lawful, strong_by, ample_by}
use Rattle.quorum.specs.Sets.{member, set_of}
use Rattle.quorum.specs.Members.{member_none}
use Rattle.quorum.specs.Truth.{clash, false_unless, same_truth}
use Rattle.quorum.proofs.Sharing.{ample_share}
use Rattle.quorum.proofs.Tested.{ample_by_grows}
use Rattle.vote.specs.declared.Depth.{Depth}
use Rattle.vote.specs.declared.Depth.TheVariants.{One, Two}
use Rattle.vote.specs.declared.Vote.{Vote}
use Rattle.vote.specs.History.{Seen, seen, counted, first, says, speaks, memo}
use Rattle.vote.specs.Search.{or_else, when, given, is, some_below}
use Rattle.vote.specs.Setting.{Setting, lowest, decision_on}
use Rattle.vote.proofs.Options.{holds_none, else_absent, when_absent, else_none}
use Rattle.vote.proofs.Counting.{vote_is, first_other, says_other, counted_more}
use Rattle.vote.proofs.Seeking.{set_of_none, nothing_below, seek_from, seek_own}
use Rattle.agreement.specs.Echo.{approved, two_approved, mixed, second, third, outcome, fifth, backed, decides, found, verdict}
use Rattle.heard.specs.Due.{approves, shared_due, third_due, outcome_due, fifth_due, held, verdict_due}
use Rattle.echo_board.specs.Steps.{decides_by, at_two, decision_due}

-- what is due of a test once w is counted: all that the test finds, where it found nothing before
abbrev pub Due : {A : Type 0} → List Vote → Vote → (Seen → Option A) → Option A → Type 0
Due h w t a = (t (seen []) ≡ None) × (t (seen h) ≡ None → t (seen (w ∷ h)) ≡ a)

-- it is made where b is true, and where not, nothing is found
due_where : {A : Type 0} (b : Bool) (t a : Option A) → t ≡ a → (b ≡ false → t ≡ None) → t ≡ cond b a None
due_where true t a p f = p
due_where false t a p f = f refl

decides_where : (g : ℕ) (b : Bool) (o : Option ℕ) → decides g (cond b o None) ≡ cond b (decides g o) None
decides_where g true o = refl
decides_where g false o = refl

-- 0 is decided at no grade
decides_zero : (b : Bool) (v : ℕ) → v ≡ 0 → decides 2 (when b v) ≡ when b (decision_on 0 0)
decides_zero true v z = rw z refl
decides_zero false v z = refl

decides_absent : (g : ℕ) (o : Option ℕ) → decides g o ≡ None → o ≡ None
decides_absent g None e = refl
decides_absent g (Some v) e = holds_none (sym e)

-- ---- before anything is counted no test finds anything
module _ (S : Setting) (lawful : Lawful S.rule) (covers : 1 ≤ S.rule.cover) where
  nobody_in : (i : ℕ) → member i (set_of S.rule.crew (λ j. false)) ≡ false
  nobody_in i = rw (set_of_none S.rule.crew) (member_none i)

  nobody_few : ample_by S.rule (λ i. false) ≡ false
  nobody_few =
      false_unless _ (λ e.
      let k = ample_share lawful (set_of S.rule.crew (λ i. false) ∷ []) [] (omega arith) (and_from _ _ e refl) refl in
      clash (and_parts (member k.0 (set_of S.rule.crew (λ i. false))) true k.2).0 (nobody_in k.0))

  none_lowest : (p : ℕ → Bool) → ((v : ℕ) → p v ≡ false) → lowest S p ≡ None
  unfolding lowest
  none_lowest p f = nothing_below (suc S.characters) p (λ v l. f v)

  none_approved : (v : ℕ) → approved S (seen []) v ≡ false
  unfolding approved counted
  none_approved v = nobody_few

  none_says : (c v : ℕ) → ample_by S.rule (says (seen []) c v) ≡ false
  unfolding first
  none_says c v = nobody_few

  none_speaks : (c : ℕ) → ample_by S.rule (speaks (seen []) c) ≡ false
  unfolding first
  none_speaks c = nobody_few

  none_two : two_approved S (seen []) ≡ false
  unfolding two_approved
  none_two = ap given (none_lowest _ (λ u. rw (none_approved u)))

  none_mixed : mixed S (seen []) ≡ false
  unfolding mixed
  none_mixed = rw (none_approved 0, none_two)

  none_shared : (c : ℕ) → lowest S (λ v. ample_by S.rule (says (seen []) c v)) ≡ None
  none_shared c = none_lowest _ (none_says c)

  none_second : second S (seen []) ≡ None
  unfolding second
  none_second = none_lowest _ none_approved

  none_third : third S (seen []) ≡ None
  unfolding third
  none_third = rw (none_shared 2, none_two)

  none_outcome : outcome S (seen []) ≡ None
  unfolding outcome
  none_outcome = rw (none_shared 3, none_mixed)

  none_fifth : fifth S (seen []) ≡ None
  unfolding fifth
  none_fifth = rw (none_shared 4, none_mixed)

  none_verdict : (d : Depth) → verdict S d (seen []) ≡ None
  unfolding verdict
  none_verdict One = rw none_outcome
  none_verdict Two = rw (none_lowest (λ v. not (eqb v 0) && ample_by S.rule (says (seen []) 5 v)) (λ v. rw (none_says 5 v) (and-false (not (eqb v 0)))), none_mixed, none_says 5 0)

-- ---- with the vote w
module _ (S : Setting) (lawful : Lawful S.rule) (covers : 1 ≤ S.rule.cover) (h : List Vote) (w : Vote) (low : w.value ≤ S.characters) where
  abbrev X : Seen
  X = seen (w ∷ h)

  abbrev A : Bool
  A = approves S w X

  -- ---- it leaves approved what was, where it makes no value approved
  -- without its sender, the senders of a value are of those before it
  without_before : (v i : ℕ) → (counted (w ∷ h) 1 v i && not (eqb w.sender i)) ≡ true → counted h 1 v i ≡ true
  unfolding counted
  without_before v i p =
      let k = and_parts (counted (w ∷ h) 1 v i) _ p in
      ⊎_elim (λ e. e) (λ e. clash (eq-eqb w.sender i (vote_is w 1 v i e).1) (not-true (eqb w.sender i) k.1)) (or_cases (counted h 1 v i) _ k.0)

  approved_before : A ≡ false → w.kind ≡ 1 → approved S X w.value ≡ true → approved S (seen h) w.value ≡ true
  unfolding approved
  approved_before same q p =
      ample_by_grows lawful _ _ (λ i l. without_before w.value i)
      (not-false (ample_by S.rule (λ i. counted (w ∷ h) 1 w.value i && not (eqb w.sender i))) (rw (eq-eqb w.kind 1 q, p) at same))

  approved_after : (v : ℕ) → approved S (seen h) v ≡ true → approved S X v ≡ true
  unfolding approved
  approved_after v = ample_by_grows lawful (counted h 1 v) (counted (w ∷ h) 1 v) (λ i l. counted_more w h 1 v i)

  approved_other : (v : ℕ) → (w.value ≡ v → ⊥) → approved S X v ≡ approved S (seen h) v
  unfolding approved counted
  approved_other v ne = ap (ample_by S.rule) (fun_ext (λ i. rw (ne_eqb w.value v ne, and-false (eqb w.kind 1 && eqb w.sender i)) (or-false (counted h 1 v i))))

  approved_apart : (v : ℕ) → (w.kind ≡ 1 → ⊥) → approved S X v ≡ approved S (seen h) v
  unfolding approved counted
  approved_apart v ne = ap (ample_by S.rule) (fun_ext (λ i. rw (ne_eqb w.kind 1 ne) (or-false (counted h 1 v i))))

  approved_at : A ≡ false → (v : ℕ) → approved S X v ≡ approved S (seen h) v
  approved_at same v =
      ⊎_elim
      (λ (q : w.kind ≡ 1). ⊎_elim
      (λ (z : w.value ≡ v). subst (λ (u : ℕ). approved S X u ≡ approved S (seen h) u) z (same_truth _ _ (approved_before same q) (approved_after w.value)))
      (approved_other v)
      (cases_eq w.value v))
      (approved_apart v)
      (cases_eq w.kind 1)

  approved_same : A ≡ false → approved S X ≡ approved S (seen h)
  approved_same same = fun_ext (approved_at same)

  two_same : A ≡ false → two_approved S X ≡ two_approved S (seen h)
  unfolding two_approved
  two_same same = rw (approved_same same)

  mixed_same : A ≡ false → mixed S X ≡ mixed S (seen h)
  unfolding mixed
  mixed_same same = rw (approved_at same 0, two_same same)

  -- neither is a value made approved, nor is the vote of the kind c
  apart : {c : ℕ} {T : Type 0} → (A || eqb w.kind c) ≡ false → (A ≡ false → (w.kind ≡ c → ⊥) → T) → T
  apart {c} e f = let k = or_parts A (eqb w.kind c) e in f k.0 (eqb-false w.kind c k.1)

  -- ---- where the senders of no value were ample in the kind c, those of its value are asked alone
  module _ (c : ℕ) (g : ℕ → Bool) (none : lowest S (λ v. g v && ample_by S.rule (says (seen h) c v)) ≡ None) where
    few_before : (v : ℕ) → v < suc S.characters → (g v && ample_by S.rule (says (seen h) c v)) ≡ false
    unfolding lowest
    few_before v l = false_unless _ (λ t. clash (seek_from (suc S.characters) _ v l t) (ap given none))

    own_of_kind : w.kind ≡ c → lowest S (λ v. g v && ample_by S.rule (says X c v)) ≡ when (g w.value && ample_by S.rule (says X c w.value)) w.value
    unfolding lowest
    own_of_kind q =
        seek_own (suc S.characters) (λ v. g v && ample_by S.rule (says X c v)) w.value (omega arith)
        (λ v l ne. ap (λ (p : ℕ → Bool). g v && ample_by S.rule p) (says_other w h c v (λ z. ne (sym z))) ∙ few_before v l)

    own_found : lowest S (λ v. g v && ample_by S.rule (says X c v)) ≡ when (eqb w.kind c && (g w.value && ample_by S.rule (says X c w.value))) w.value
    own_found =
        ⊎_elim (λ (q : w.kind ≡ c). rw (eq-eqb w.kind c q) (own_of_kind q))
        (λ (q : w.kind ≡ c → ⊥). rw (ne_eqb w.kind c q) (ap (λ (f : ℕ → Option ℕ). lowest S (λ v. g v && ample_by S.rule (λ i. is v (f i)))) (first_other w h c q) ∙ none))
        (cases_eq w.kind c)

  shared_found : (c : ℕ) → lowest S (λ v. ample_by S.rule (says (seen h) c v)) ≡ None → lowest S (λ v. ample_by S.rule (says X c v)) ≡ shared_due S w c X
  shared_found c none = own_found c (λ v. true) none

  -- ---- each test, where it found nothing before
  second_same : A ≡ false → second S X ≡ second S (seen h)
  unfolding second
  second_same same = rw (approved_same same)

  second_made : Due h w (second S) (cond A (second S X) None)
  second_made = (none_second S lawful covers, λ e. due_where A _ _ refl (λ same. second_same same ∙ e))

  third_now : third S (seen h) ≡ None → third S X ≡ cond (A || eqb w.kind 2) (third_due S w X) None
  unfolding third
  third_now e =
      let k = else_absent (lowest S (λ v. ample_by S.rule (says (seen h) 2 v))) _ e in
      let two = when_absent (two_approved S (seen h)) 0 k.1 in
      ap (λ (o : Option ℕ). or_else o (when (two_approved S X) 0)) (shared_found 2 k.0) ∙ ⊎_elim
      (λ (q : w.kind ≡ 2).
      let same : A ≡ false = rw (ne_eqb w.kind 1 (omega arith)) refl in
      rw (eq-eqb w.kind 2 q, same, two_same same ∙ two) (sym (else_none _)))
      (λ (q : w.kind ≡ 2 → ⊥). rw (ne_eqb w.kind 2 q, or-false A) (due_where A _ _ refl (λ same. rw (two_same same ∙ two) refl)))
      (cases_eq w.kind 2)

  third_made : Due h w (third S) (cond (A || eqb w.kind 2) (third_due S w X) None)
  third_made = (none_third S lawful covers, third_now)

  outcome_now : outcome S (seen h) ≡ None → outcome S X ≡ outcome_due S w X
  unfolding outcome
  outcome_now e = ap (or_else (when (mixed S X && ample_by S.rule (speaks X 3)) 0)) (shared_found 3 (else_absent (when (mixed S (seen h) && ample_by S.rule (speaks (seen h) 3)) 0) _ e).1)

  outcome_same : A ≡ false → (w.kind ≡ 3 → ⊥) → outcome S X ≡ outcome S (seen h)
  unfolding outcome
  outcome_same same ne =
      ap₂ (λ (f : ℕ → Option ℕ) (b : Bool). or_else (when (b && ample_by S.rule (λ i. given (f i))) 0) (lowest S (λ v. ample_by S.rule (λ i. is v (f i))))) (first_other w h 3 ne) (mixed_same same)

  outcome_made : Due h w (outcome S) (cond (A || eqb w.kind 3) (outcome_due S w X) None)
  outcome_made = (none_outcome S lawful covers, λ e. due_where (A || eqb w.kind 3) _ _ (outcome_now e) (λ f. apart f outcome_same ∙ e))

  fifth_now : fifth S (seen h) ≡ None → fifth S X ≡ fifth_due S w X
  unfolding fifth
  fifth_now e = ap (λ (o : Option ℕ). or_else o (when (mixed S X && ample_by S.rule (speaks X 4)) 0)) (shared_found 4 (else_absent (lowest S (λ v. ample_by S.rule (says (seen h) 4 v))) _ e).0)

  fifth_same : A ≡ false → (w.kind ≡ 4 → ⊥) → fifth S X ≡ fifth S (seen h)
  unfolding fifth
  fifth_same same ne =
      ap₂ (λ (f : ℕ → Option ℕ) (b : Bool). or_else (lowest S (λ v. ample_by S.rule (λ i. is v (f i)))) (when (b && ample_by S.rule (λ i. given (f i))) 0)) (first_other w h 4 ne) (mixed_same same)

  fifth_made : Due h w (fifth S) (cond (A || eqb w.kind 4) (fifth_due S w X) None)
  fifth_made = (none_fifth S lawful covers, λ e. due_where (A || eqb w.kind 4) _ _ (fifth_now e) (λ f. apart f fifth_same ∙ e))

  verdict_same : A ≡ false → (w.kind ≡ 4 → ⊥) → (w.kind ≡ 5 → ⊥) → verdict S Two X ≡ verdict S Two (seen h)
  unfolding verdict backed
  verdict_same same four five =
      ap₂ (λ (f : ℕ → Option ℕ) (y : (ℕ → Option ℕ) × Bool).
      or_else (decides 2 (lowest S (λ v. not (eqb v 0) && ample_by S.rule (λ i. is v (y.0 i)))))
      (or_else (cond (y.1 && ample_by S.rule (λ i. given (y.0 i))) (decides 1 (lowest S (λ u. not (eqb u 0) && some_below S.rule.crew (λ i. is u (y.0 i)) && strong_by S.rule (λ i. is u (f i))))) None)
      (when (ample_by S.rule (λ i. is 0 (y.0 i))) (decision_on 0 0))))
      (first_other w h 4 four) (ap₂ (λ (g : ℕ → Option ℕ) (b : Bool). (g, b)) (first_other w h 5 five) (mixed_same same))

  verdict_of : (A || (eqb w.kind 4 || eqb w.kind 5)) ≡ false → verdict S Two X ≡ verdict S Two (seen h)
  verdict_of f =
      let k = or_parts A (eqb w.kind 4 || eqb w.kind 5) f in
      let l = or_parts (eqb w.kind 4) (eqb w.kind 5) k.1 in
      verdict_same k.0 (eqb-false w.kind 4 l.0) (eqb-false w.kind 5 l.1)

  -- the senders of 0 are asked where w may be one of them
  zero_of_kind : ample_by S.rule (says (seen h) 5 0) ≡ false → w.value ≡ 0 → ample_by S.rule (says X 5 0) ≡ (eqb w.kind 5 && ample_by S.rule (says X 5 w.value))
  zero_of_kind few z =
      ⊎_elim (λ (q : w.kind ≡ 5). rw (eq-eqb w.kind 5 q, z) refl)
      (λ (q : w.kind ≡ 5 → ⊥). rw (ne_eqb w.kind 5 q) (ap (λ (f : ℕ → Option ℕ). ample_by S.rule (λ i. is 0 (f i))) (first_other w h 5 q) ∙ few))
      (cases_eq w.kind 5)

  verdict_now : verdict S Two (seen h) ≡ None → verdict S Two X ≡ verdict_due S w X
  unfolding verdict
  verdict_now e =
      let full = else_absent (decides 2 (lowest S (λ v. not (eqb v 0) && ample_by S.rule (says (seen h) 5 v)))) _ e in
      let nothing = else_absent (held S (seen h)) _ full.1 in
      let few = when_absent (ample_by S.rule (says (seen h) 5 0)) _ nothing.1 in
      let own = own_found 5 (λ v. not (eqb v 0)) (decides_absent 2 _ full.0) in
      ⊎_elim
      (λ (z : w.value ≡ 0).
      rw (own, zero_of_kind few z, eq-eqb w.value 0 z, and-false (eqb w.kind 5)) (ap (or_else (held S X)) (sym (decides_zero (eqb w.kind 5 && ample_by S.rule (says X 5 w.value)) w.value z))))
      (λ (z : w.value ≡ 0 → ⊥).
      rw (own, ap (ample_by S.rule) (says_other w h 5 0 z) ∙ few, ne_eqb w.value 0 z) (ap (or_else (decides 2 (shared_due S w 5 X))) (sym (else_none (held S X)))))
      (cases_eq w.value 0)

  verdict_made : Due h w (verdict S Two) (cond (A || (eqb w.kind 4 || eqb w.kind 5)) (verdict_due S w X) None)
  verdict_made = (none_verdict S lawful covers Two, λ e. due_where (A || (eqb w.kind 4 || eqb w.kind 5)) _ _ (verdict_now e) (λ f. verdict_of f ∙ e))

  -- ---- and what is posted and decided by them at a depth
  pub second_found : (d : Depth) → Due h w (found S d 2) (cond A (second S X) None)
  unfolding found
  second_found One = second_made
  second_found Two = second_made

  pub third_found : (d : Depth) → Due h w (found S d 3) (cond (A || eqb w.kind 2) (third_due S w X) None)
  unfolding found
  third_found One = third_made
  third_found Two = third_made

  pub fourth_found : (d : Depth) → Due h w (found S d 4) (at_two d (cond (A || eqb w.kind 3) (outcome_due S w X) None))
  unfolding found
  fourth_found One = (refl, λ e. refl)
  fourth_found Two = outcome_made

  pub fifth_found : (d : Depth) → Due h w (found S d 5) (at_two d (cond (A || eqb w.kind 4) (fifth_due S w X) None))
  unfolding found
  fifth_found One = (refl, λ e. refl)
  fifth_found Two = fifth_made

  decided_one : Due h w (outcome S) (cond (A || eqb w.kind 3) (outcome_due S w X) None) → Due h w (verdict S One) (cond (A || eqb w.kind 3) (decides 1 (outcome_due S w X)) None)
  unfolding verdict
  decided_one k = (ap (decides 1) k.0, λ e. ap (decides 1) (k.1 (decides_absent 1 (outcome S (seen h)) e)) ∙ decides_where 1 (A || eqb w.kind 3) _)

  pub decision_found : (d : Depth) → Due h w (verdict S d) (cond (A || decides_by d w.kind) (decision_due S d w X) None)
  decision_found One = decided_one outcome_made
  decision_found Two = verdict_made

-- ---- what is remembered of a test of which that is made which is due
module _ {A : Type 0} (h : List Vote) (w : Vote) (t : Seen → Option A) where
  abbrev kept : List Vote → Option A
  kept = memo (λ g. t (seen g))

  found_before : t (seen []) ≡ None → (g : List Vote) → kept g ≡ None → t (seen g) ≡ None
  unfolding memo
  found_before n [] e = n
  found_before n (u ∷ g) e = (else_absent (kept g) _ e).1

  else_due : (m a y : Option A) → (m ≡ None → y ≡ a) → or_else m (or_else m a) ≡ or_else m y
  else_due None a y f = sym (f refl)
  else_due (Some v) a y f = refl

  pub remembered : (a : Option A) → Due h w t a → or_else (kept h) (or_else (kept h) a) ≡ kept (w ∷ h)
  unfolding memo
  remembered a d = else_due (kept h) a (t (seen (w ∷ h))) (λ e. d.1 (found_before d.0 h e))
