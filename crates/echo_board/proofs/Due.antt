-- What the tests 1 and 2 make due once a vote is counted, of the values that are not echoed, is all that is newly echoed. Assumes nothing but that nobody may fail, and that the vote is of the crew and bears a value there is.
use Rattle.std.proofs.Common.{◌≡◌, ℕ, suc, ◌-◌, ◌<◌, ◌≤◌, Bool, true, false, cond, not, ◌&&◌, ◌||◌, eqb, leb, List, [], ◌∷◌, Option, sym, refl, ap, ◌∙◌, subst, ⊎_elim, arith}
use mathlib.Core.Bool.{and-false, or-false}
use mathlib.Core.Path.{fun_ext}
use lib.Bits.{bit_or, bit_and}
use Rattle.std.proofs.lemmas.Bool.{and_parts, and_from, and_right, or_cases, or_left, or_right, not_from_false, cases_Bool, cases_eq, eqb-true, eq-eqb, ne_eqb, le-leb}
use Rattle.quorum.specs.Sets.{member}
use Rattle.quorum.specs.Rules.{strong, strong_by}
use Rattle.quorum.specs.Truth.{clash, false_since, same_truth}
use Rattle.quorum.specs.Members.{member_set_of}
use Rattle.quorum.proofs.Masks.{set_of_ext, set_of_or, set_of_minus}
use Rattle.vote.specs.declared.Vote.{Vote}
use Rattle.vote.specs.History.{seen, of_kind, counted, first, says, ever}
use Rattle.vote.specs.Search.{given, is, all_below}
use Rattle.vote.specs.Setting.{Setting}
use Rattle.agreement.specs.Echo.{other, parted, echoes, echoed}
use Rattle.vote.specs.News.{values}
use Rattle.vote.proofs.Options.{is_else_same}
use Rattle.vote.proofs.Seeking.{set_of_none}
use Rattle.heard.specs.Due.{opens, echo_due}
use Rattle.echo_board.proofs.Once.{first_known}
use Rattle.echo_board.proofs.Quiet.{due_before, echoed_same}
use Rattle.echo_board.proofs.Stays.{echo_stays}

-- ---- an echo that is new is due now and was not before
pub new_only : (a l e t : Bool) → (a || (l && (e || t))) ≡ true → (a || (l && e)) ≡ false → (t ≡ true) × (e ≡ false)
new_only true l e t p q = clash refl q
new_only false false e t p q = clash p refl
new_only false true true t p q = clash refl q
new_only false true false t p q = (p, refl)

or_without : (b c : Bool) → c ≡ false → (b || c) ≡ b
or_without b c p = rw p (or-false b)

module _ (S : Setting) (nobody : S.rule.fails 0 ≡ true) (h : List Vote) where
  -- the senders of a value that was never due were not strong
  pub weak_before : (v : ℕ) → ever (λ g. echoes S v (seen g)) h ≡ false → strong_by S.rule (counted h 1 v) ≡ false
  unfolding echoes
  weak_before v p = false_since _ _ (λ e. due_before S nobody h v (or_left (strong_by S.rule (counted h 1 v)) _ e)) p

  -- and those of another value than the vote's are as they were
  pub other_same : (w : Vote) (v : ℕ) → (w.value ≡ v → ⊥) → strong_by S.rule (counted (w ∷ h) 1 v) ≡ strong_by S.rule (counted h 1 v)
  unfolding counted
  other_same w v ne = ap (strong S.rule) (set_of_ext S.rule.crew _ _ (λ i l. or_without (counted h 1 v i) _ (and_right (of_kind 1 i w) _ (ne_eqb w.value v ne))))

-- what is made due of w
abbrev pub due : Setting → ℕ → List Vote → Vote → ℕ
due S s h w = cond (eqb w.kind 1) (values (echo_due S w (values (echoed S s h)) (seen (w ∷ h)))) 0

module _ (S : Setting) (nobody : S.rule.fails 0 ≡ true) (s : ℕ) (h : List Vote) (w : Vote) (within : w.sender < S.rule.crew) (low : w.value ≤ S.characters) (few : S.characters ≤ 8) where
  abbrev posted : ℕ
  posted = values (echoed S s h)

  abbrev Due : ℕ → Bool
  Due = echo_due S w posted (seen (w ∷ h))

  -- the vote's value with strong senders, and 0 with parted openings of which the vote is one
  abbrev Own : ℕ → Bool
  Own v = eqb v w.value && strong_by S.rule (counted (w ∷ h) 1 v)

  abbrev Zero : ℕ → Bool
  Zero v = eqb v 0 && (opens S.rule.crew w (seen (w ∷ h)) && parted S (seen (w ∷ h)))

  -- ---- what is due is echoed with w
  now_echoed : (v : ℕ) → v ≤ S.characters → echoes S v (seen (w ∷ h)) ≡ true → echoed S s (w ∷ h) v ≡ true
  unfolding echoed ever
  now_echoed v l e = or_right (eqb v s) _ (and_from _ _ (le-leb v S.characters l) (or_right (ever (λ g. echoes S v (seen g)) h) _ e))

  own_echoed : (v : ℕ) → Own v ≡ true → echoed S s (w ∷ h) v ≡ true
  unfolding echoes
  own_echoed v p =
      let k = and_parts (eqb v w.value) _ p in
      let z = eqb-true v w.value k.0 in
      now_echoed v (omega arith) (or_left (strong_by S.rule (counted (w ∷ h) 1 v)) _ k.1)

  zero_echoed : (v : ℕ) → Zero v ≡ true → echoed S s (w ∷ h) v ≡ true
  unfolding echoes
  zero_echoed v p =
      let k = and_parts (eqb v 0) _ p in
      let z = eqb-true v 0 k.0 in
      now_echoed v (omega arith) (or_right (strong_by S.rule (counted (w ∷ h) 1 v)) _ (and_from _ _ k.0 (and_parts (opens S.rule.crew w (seen (w ∷ h))) _ k.1).1))

  due_echoed : (v : ℕ) → Due v ≡ true → echoed S s (w ∷ h) v ≡ true
  due_echoed v p = ⊎_elim (own_echoed v) (zero_echoed v) (or_cases (Own v) _ (and_parts (not (member v posted)) _ p).1)

  -- ---- what is newly echoed with w is due
  module _ (echo : w.kind ≡ 1) where
    -- with an opening that was there before, the openings are those of before
    parted_same : given (first h 1 w.sender) ≡ true → parted S (seen (w ∷ h)) ≡ parted S (seen h)
    unfolding parted
    parted_same g =
        ap (λ (f : ℕ → Option ℕ). all_below (suc S.characters) (λ u. strong_by S.rule (λ i. other u (f i))))
        (fun_ext (first_known h w (subst (λ (c : ℕ). given (first h c w.sender) ≡ true) (sym echo) g) 1))

    opened : given (first h 1 w.sender) ≡ false → opens S.rule.crew w (seen (w ∷ h)) ≡ true
    unfolding first
    opened g =
        member_set_of S.rule.crew (says (seen (w ∷ h)) 1 w.value) w.sender within
        ∙ is_else_same (first h 1 w.sender) (of_kind 1 w.sender w) w.value (λ b. g)
        ∙ or_right (is w.value (first h 1 w.sender)) _ (and_from _ _ (eq-eqb w.kind 1 echo) (eq-eqb w.sender w.sender refl))

    opens_new : (v : ℕ) → eqb v 0 ≡ true → ever (λ g. echoes S v (seen g)) h ≡ false → parted S (seen (w ∷ h)) ≡ true → opens S.rule.crew w (seen (w ∷ h)) ≡ true
    unfolding echoes
    opens_new v z e p =
        ⊎_elim (λ g. clash (due_before S nobody h v (or_right (strong_by S.rule (counted h 1 v)) _ (and_from _ _ z (sym (parted_same g) ∙ p)))) e) opened
        (cases_Bool (given (first h 1 w.sender)))

    found_now : (v : ℕ) → ever (λ g. echoes S v (seen g)) h ≡ false → echoes S v (seen (w ∷ h)) ≡ true → (Own v || Zero v) ≡ true
    unfolding echoes
    found_now v e t =
        ⊎_elim
        (λ (p : strong_by S.rule (counted (w ∷ h) 1 v) ≡ true). or_left (Own v) _ (⊎_elim
        (λ (z : w.value ≡ v). and_from _ _ (eq-eqb v w.value (sym z)) p)
        (λ (z : w.value ≡ v → ⊥). clash (sym (other_same S nobody h w v z) ∙ p) (weak_before S nobody h v e))
        (cases_eq w.value v)))
        (λ p. let k = and_parts (eqb v 0) _ p in or_right (Own v) _ (and_from _ _ k.0 (and_from _ _ (opens_new v k.0 e k.1) k.1)))
        (or_cases (strong_by S.rule (counted (w ∷ h) 1 v)) _ t)

    newly_due : (v : ℕ) → v < 9 → echoed S s (w ∷ h) v ≡ true → echoed S s h v ≡ false → Due v ≡ true
    unfolding echoed ever
    newly_due v l p q =
        let k = new_only (eqb v s) (leb v S.characters) (ever (λ g. echoes S v (seen g)) h) (echoes S v (seen (w ∷ h))) p q in
        and_from _ _ (not_from_false _ (member_set_of 9 (echoed S s h) v l ∙ q)) (found_now v k.1 k.0)

  -- ---- so with what is due all is echoed that is echoed with w
  abbrev DueOf : ℕ → Bool
  DueOf v = eqb w.kind 1 && Due v

  due_is : due S s h w ≡ values DueOf
  due_is = at (eqb w.kind 1)
    where
      at : (b : Bool) → cond b (values Due) 0 ≡ values (λ v. b && Due v)
      at true = refl
      at false = sym (set_of_none 9)

  with_due : (v : ℕ) → v < 9 → (echoed S s h v || DueOf v) ≡ echoed S s (w ∷ h) v
  with_due v l =
      ⊎_elim (λ (q : w.kind ≡ 1). rw (eq-eqb w.kind 1 q) (same_truth _ _
      (λ p. ⊎_elim (echo_stays S s (w ∷ []) h v) (due_echoed v) (or_cases (echoed S s h v) _ p))
      (λ p. ⊎_elim (or_left (echoed S s h v) _) (λ e. or_right (echoed S s h v) _ (newly_due q v l p e)) (cases_Bool (echoed S s h v)))))
      (λ (q : w.kind ≡ 1 → ⊥). rw (ne_eqb w.kind 1 q) (or-false (echoed S s h v) ∙ sym (echoed_same S nobody h w q s v)))
      (cases_eq w.kind 1)

  pub due_kept : bit_or posted (due S s h w) ≡ values (echoed S s (w ∷ h))
  due_kept = ap (bit_or posted) due_is ∙ sym (set_of_or 9 (echoed S s h) DueOf) ∙ set_of_ext 9 _ _ with_due

  pub due_new : due S s h w - bit_and (due S s h w) posted ≡ values (λ v. echoed S s (w ∷ h) v && not (echoed S s h v))
  due_new =
      ap (λ (d : ℕ). d - bit_and d posted) due_is ∙ set_of_minus 9 DueOf (echoed S s h)
      ∙ set_of_ext 9 _ _ (λ v l. beside (echoed S s h v) (DueOf v) ∙ ap (λ (b : Bool). b && not (echoed S s h v)) (with_due v l))
    where
      beside : (a b : Bool) → (b && not a) ≡ ((a || b) && not a)
      beside true b = and-false b
      beside false b = refl
