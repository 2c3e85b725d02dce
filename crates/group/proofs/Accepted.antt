-- What an accepted opening settles: good terms, and records of which no board has started. Assumes nothing.
use Rattle.std.proofs.Common.{◌≡◌, ℕ, suc, ◌<◌, ◌≤◌, Bool, true, not, ◌&&◌, ltb, leb, List, [], ◌∷◌, length, get_or, take, replicate, None, sym, refl, ap, ◌∙◌, subst, ⊎_elim, arith}
use Rattle.std.proofs.lemmas.List.{get_or-take, length-take-le}
use Rattle.std.proofs.lemmas.List.FromFn.{length-map-range_with_len}
use Rattle.std.proofs.lemmas.Bool.{and_parts, and_from, eq-eqb, cond-true, cond-false, ltb-false, le-leb, lt-ltb, le-ltb, not-true, cases_lt}
use Rattle.quorum.specs.Rules.{Rule}
use Rattle.vote.specs.declared.Method.{Method}
use Rattle.vote.specs.declared.Method.TheVariants.{Plain, Echo}
use Rattle.agreement.specs.Methods.{needed_cover}
use Rattle.agreement.specs.Runs.{start_of}
use Rattle.heard.specs.Shown.{table}
use Rattle.heard.proofs.Read.{table_at}
use Rattle.wire.specs.Fields.{is_within}
use Rattle.wire.proofs.FrameText.{within_parts, within_from}
use Rattle.std.proofs.lemmas.Grind.{common_steps}
use Rattle.std.specs.List.{list_all}
use Rattle.board.proofs.Good.{none_failed}
use Rattle.board.specs.Fitting.{echo_under_two, vote_fault, address_fault}
use Rattle.group.specs.declared.opening.Opening.{Opening}
use Rattle.group.specs.declared.terms.Terms.{Terms}
use Rattle.group.specs.Calls.{board_of, records_of, run_of, after}
use Rattle.group.specs.Opening.{opening_fault, kept_start, GoodOpening, Settles}
use Rattle.group.specs.Promises.{Opened}
use Rattle.group.specs.Sound.{all_characters, sound_terms}
use Rattle.group.proofs.Numbers.{character_at}

-- ---- tests of a list, place by place
all_pass_from : (p : ℕ → Bool) (xs : List ℕ) → ((i : ℕ) → i < length xs → p (get_or xs i 0) ≡ true) → list_all p xs ≡ true
all_pass_from p [] f = refl
all_pass_from p (x ∷ xs) f = and_from _ _ (f 0 (omega arith)) (all_pass_from p xs (λ i l. f (suc i) (omega (arith, l))))

-- ---- the starting characters
module _ (n : ℕ) (o : Opening) (good : GoodOpening n o) where
  kept_inside : (i : ℕ) → i < n → kept_start n o.starts i ≡ get_or o.starts i 0
  kept_inside i l =
      let s = good.starts_fit i l in
      cond-true (ltb i n) _ _ (lt-ltb i n l) ∙ cond-true (leb (get_or o.starts i 0) 255) _ _ (le-leb _ _ (omega (arith, s.1, good.characters_high)))

  kept_fits : (i : ℕ) → is_within 1 o.characters (kept_start n o.starts i) ≡ true
  kept_fits i =
      ⊎_elim
      (λ l. let s = good.starts_fit i l in ap (is_within 1 o.characters) (kept_inside i l) ∙ within_from 1 o.characters _ s.0 s.1)
      (λ m. ap (is_within 1 o.characters) (cond-false (ltb i n) _ 1 (le-ltb i n m)) ∙ within_from 1 o.characters 1 (omega arith) good.characters_low)
      (cases_lt i n)

  pub terms_sound : (ss : List ℕ) → ss ≡ table 16 (kept_start n o.starts) → sound_terms o.characters o.group o.change ss ≡ true
  unfolding sound_terms
  terms_sound ss is =
      let len : length ss ≡ 16 = ap length is ∙ length-map-range_with_len (kept_start n o.starts) 0 16 in
      and_from _ _ (within_from 1 8 o.characters good.characters_low good.characters_high)
      (and_from _ _ (within_from 1 65535 o.group good.group_low good.group_high)
      (and_from _ _ (within_from 1 65535 o.change good.change_low good.change_high)
      (and_from _ _ (eq-eqb _ _ len)
      (all_pass_from (is_within 1 o.characters) ss (λ i l.
      ap (λ (xs : List ℕ). is_within 1 o.characters (get_or xs i 0)) is ∙ ap (is_within 1 o.characters) (table_at 16 (kept_start n o.starts) i 0 (omega (arith, l, len))) ∙ kept_fits i)))))

  -- as they are kept
  pub terms_kept : (k g c : ℕ) (ss : List ℕ) → k ≡ o.characters → g ≡ o.group → c ≡ o.change → ss ≡ table 16 (kept_start n o.starts) → sound_terms k g c ss ≡ true
  terms_kept k g c ss p q r is = rw (p, q, r) (terms_sound ss is)

  pub starts_settled : (ss : List ℕ) → ss ≡ table 16 (kept_start n o.starts) → (i : ℕ) → i < n → get_or ss i 0 ≡ get_or o.starts i 0
  starts_settled ss is i l =
      ap (λ (xs : List ℕ). get_or xs i 0) is ∙ table_at 16 (kept_start n o.starts) i 0 (omega (arith, l, good.crew_high)) ∙ kept_inside i l

-- ---- what it says that nothing stands against an opening
cover_needed : (m : Method) (c : ℕ) → 2 ≤ c → not (echo_under_two m c) ≡ true → needed_cover m ≤ c
cover_needed Plain c l p = l
cover_needed Echo c l p = ltb-false c 3 (not-true _ p)

module _ (R : Rule) (o : Opening) (none : opening_fault R o ≡ None) where
  pub record Accepted : Type 0 where
    pub numbers : length o.starts ≡ 16 → GoodOpening R.crew o
    pub crew_fits : R.crew ≤ 16
    pub cover_suffices : needed_cover o.method ≤ R.cover
    pub cover_fits : R.cover ≤ 3
    pub listed_may_fail : R.fails o.listed ≡ true

  pub accepted_parts : Accepted
  unfolding opening_fault
  accepted_parts =
      let crew = none_failed (is_within 1 16 R.crew) _ _ none in
      let characters = none_failed (is_within 1 8 o.characters) _ _ crew.1 in
      let depth = none_failed (is_within 1 2 o.depth) _ _ characters.1 in
      let cover = none_failed (is_within 2 3 R.cover) _ _ depth.1 in
      let method = none_failed (not (echo_under_two o.method R.cover)) _ _ cover.1 in
      let address = none_failed (is_within 1 65535 o.group && is_within 1 65535 o.change) _ _ method.1 in
      let starts = none_failed (all_characters o.characters (take R.crew o.starts)) _ _ address.1 in
      let family = none_failed (R.fails o.listed) _ _ starts.1 in
      let both = and_parts (is_within 1 65535 o.group) _ address.0 in
      let high = (within_parts 1 16 R.crew crew.0).1 in
      record {
        numbers = λ len. record {
          crew_high = high;
          characters_low = (within_parts 1 8 o.characters characters.0).0;
          characters_high = (within_parts 1 8 o.characters characters.0).1;
          depth_low = (within_parts 1 2 o.depth depth.0).0;
          depth_high = (within_parts 1 2 o.depth depth.0).1;
          group_low = (within_parts 1 65535 o.group both.0).0;
          group_high = (within_parts 1 65535 o.group both.0).1;
          change_low = (within_parts 1 65535 o.change both.1).0;
          change_high = (within_parts 1 65535 o.change both.1).1;
          starts_fit = λ i l.
              let same = get_or-take R.crew o.starts i 0 l in
              let k = character_at o.characters (take R.crew o.starts) i starts.0 (omega (arith, l, high, len, length-take-le R.crew o.starts)) in
              (subst (λ (x : ℕ). 1 ≤ x) same k.0, subst (λ (x : ℕ). x ≤ o.characters) same k.1);
        };
        crew_fits = high;
        cover_suffices = cover_needed o.method R.cover (within_parts 2 3 R.cover cover.0).0 method.0;
        cover_fits = (within_parts 2 3 R.cover cover.0).1;
        listed_may_fail = family.0;
      }

  pub opened : (T : Terms) → Settles R o T → Opened R T
  opened T s =
      let a = accepted_parts in
      record {
        crew_fits = a.crew_fits;
        cover_suffices = subst (λ (m : Method). needed_cover m ≤ R.cover) (sym s.method) a.cover_suffices;
        cover_fits = a.cover_fits;
        listed_may_fail = ap R.fails s.listed ∙ a.listed_may_fail;
      }

-- what the tests of an opening tell, one after the other, where n is the crew
pub passed : (R : Rule) (o : Opening) (n : ℕ) → n ≡ R.crew → vote_fault R o.method o.depth o.characters ≡ None → address_fault o.group o.change ≡ None
    → true ≡ all_characters o.characters (take n o.starts) → true ≡ R.fails o.listed → length o.starts ≡ 16 → (opening_fault R o ≡ None) × GoodOpening n o
unfolding opening_fault
passed R o n crew v a s f len =
    let starts : true ≡ all_characters o.characters (take R.crew o.starts) = rw crew at s in
    let none : opening_fault R o ≡ None = grind (arith, common_steps) in
    (none, rw crew ((accepted_parts R o none).numbers len))

-- ---- the records
pub first_records : (R : Rule) (T : Terms) → record { boards = replicate 16 None } ≡ after R T []
unfolding after run_of records_of board_of start_of
first_records R T = refl
