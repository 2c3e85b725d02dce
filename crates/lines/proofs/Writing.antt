-- A readable line is the one that its call is written as. Assumes nothing.
use Rattle.std.proofs.Common.{◌≡◌, ℕ, ◌+◌, ◌-◌, ◌<◌, ◌≤◌, Bool, true, false, cond, ◌&&◌, eqb, ltb, leb, List, [], ◌∷◌, ◌++◌, length, get_or, take, drop, Some, None, decimal, Option, sym, refl, ap, ◌∙◌, subst, ap₂, true≢false, append_assoc, append-nil, arith, length-drop, take-append-drop, length-take}
use Rattle.std.proofs.lemmas.List.{take_all, take_more, drop_all, drop_more, get_or-drop}
use Rattle.std.proofs.lemmas.Bool.{eqb-true, ltb-true, and_parts}
use Rattle.vote.specs.declared.Method.{Method}
use Rattle.vote.specs.declared.Method.TheVariants.{Plain, Echo}
use Rattle.lines.specs.Calls.{Call, unreadable}
use Rattle.lines.specs.Lines.{line_feed, max_line, readable, lettered, open_by_count, open_by_sets, opened_in, start_with, carry_with, forged_in, whole, body, call_by, call_in, open_by_count_letter, open_by_sets_letter, start_letter, carry_letter, forge_letter}
use Rattle.numerals.specs.Numerals.{comma, numbers_in}
use Rattle.numerals.specs.Parts.{field_in}
use Rattle.vote.specs.Conversions.{method_of, plain_letter, echo_letter}
use Rattle.lines.specs.Texts.{letter_of, listed, Writes}
use Rattle.lines.proofs.Spelling.{none_there, numbers_spelled, field_spelled}

-- ---- parts of a list by their places
led_by_letter : (bs : List ℕ) → lettered bs ≡ true → bs ≡ get_or bs 0 0 ∷ comma ∷ drop 2 bs
led_by_letter [] e = absurd (true≢false (sym e))
led_by_letter (a ∷ []) e = absurd (true≢false (sym e))
led_by_letter (a ∷ b ∷ bs) e = ap (λ x. a ∷ x ∷ bs) (eqb-true b comma (and_parts (ltb 1 (length (a ∷ b ∷ bs))) (eqb b comma) e).1)

one_number : (vs : List ℕ) → length vs ≡ 1 → vs ≡ get_or vs 0 0 ∷ []
one_number vs e = drop_more vs 0 0 (omega arith) ∙ ap (λ us. get_or vs 0 0 ∷ us) (drop_all 1 vs (omega arith))

led_by_four : (vs : List ℕ) → 4 ≤ length vs → vs ≡ get_or vs 0 0 ∷ get_or vs 1 0 ∷ get_or vs 2 0 ∷ get_or vs 3 0 ∷ drop 4 vs
led_by_four vs h =
    drop_more vs 0 0 (omega arith)
    ∙ ap (λ us. get_or vs 0 0 ∷ us) (drop_more vs 1 0 (omega arith)
    ∙ ap (λ us. get_or vs 1 0 ∷ us) (drop_more vs 2 0 (omega arith)
    ∙ ap (λ us. get_or vs 2 0 ∷ us) (drop_more vs 3 0 (omega arith))))

four_numbers : (vs : List ℕ) → length vs ≡ 4 → vs ≡ get_or vs 0 0 ∷ get_or vs 1 0 ∷ get_or vs 2 0 ∷ get_or vs 3 0 ∷ []
four_numbers vs e = led_by_four vs (omega arith) ∙ ap (λ us. get_or vs 0 0 ∷ get_or vs 1 0 ∷ get_or vs 2 0 ∷ get_or vs 3 0 ∷ us) (drop_all 4 vs (omega arith))

led_by_five : (vs : List ℕ) → 5 ≤ length vs → vs ≡ get_or vs 0 0 ∷ get_or vs 1 0 ∷ get_or vs 2 0 ∷ get_or vs 3 0 ∷ get_or vs 4 0 ∷ drop 5 vs
led_by_five vs h =
    led_by_four vs (omega arith) ∙ ap (λ us. get_or vs 0 0 ∷ get_or vs 1 0 ∷ get_or vs 2 0 ∷ get_or vs 3 0 ∷ us) (drop_more vs 4 0 (omega arith))

-- the sets are as many as the third number says, and the starting characters follow them
sets_lead : (vs : List ℕ) → length vs ≡ 5 + get_or vs 2 0 + get_or vs 1 0
    → vs ≡ get_or vs 0 0 ∷ get_or vs 1 0 ∷ length (take (get_or vs 2 0) (drop 5 vs)) ∷ get_or vs 3 0 ∷ get_or vs 4 0 ∷ (take (get_or vs 2 0) (drop 5 vs) ++ drop (get_or vs 2 0) (drop 5 vs))
sets_lead vs e =
    let m = get_or vs 2 0 in
    let many : m ≡ length (take m (drop 5 vs)) = omega (arith, length-take m (drop 5 vs), length-drop 5 vs) in
    led_by_five vs (omega arith)
    ∙ ap₂ (λ k us. get_or vs 0 0 ∷ get_or vs 1 0 ∷ k ∷ get_or vs 3 0 ∷ get_or vs 4 0 ∷ us) many (sym (take-append-drop m (drop 5 vs)))

method_by : (b : ℕ) (m : Method) (p q : Bool) → eqb b plain_letter ≡ p → eqb b echo_letter ≡ q → cond p (Some Plain) (cond q (Some Echo) None) ≡ Some m → b ≡ letter_of m
method_by b m true q hp hq e = let s : Plain ≡ m = cc in eqb-true b plain_letter hp ∙ ap letter_of s
method_by b m false true hp hq e = let s : Echo ≡ m = cc in eqb-true b echo_letter hq ∙ ap letter_of s
method_by b m false false hp hq e = none_there e

method_letter : (b : ℕ) (m : Method) → method_of b ≡ Some m → b ≡ letter_of m
method_letter b m e = method_by b m (eqb b plain_letter) (eqb b echo_letter) refl refl e

-- ---- whatever is read
module _ (line : List ℕ) where
  if_writes : (b : Bool) (c : Call) → (b ≡ true → Writes line c) → Writes line (cond b c unreadable)
  if_writes true c h = h refl
  if_writes false c h = tt

  read_writes : {A : Type 0} (o : Option A) (f : A → Call) → ((x : A) → o ≡ Some x → Writes line (f x)) → Writes line (readable o f)
  read_writes None f h = tt
  read_writes (Some x) f h = h x refl

  letter_writes : (b l : ℕ) (c d : Call) (t : Bool) → eqb b l ≡ t → (b ≡ l → Writes line c) → Writes line d → Writes line (cond t c d)
  letter_writes b l c d true e h k = h (eqb-true b l e)
  letter_writes b l c d false e h k = k

  -- ---- a whole line
  module _ (w : whole line ≡ true) where
    tests : (lettered line ≡ true) × (2 < length line) × (get_or line (length line - 1) 0 ≡ line_feed)
    tests =
        let a = and_parts (lettered line && ltb 2 (length line) && leb (length line) max_line) (eqb (get_or line (length line - 1) 0) line_feed) w in
        let b = and_parts (lettered line && ltb 2 (length line)) (leb (length line) max_line) a.0 in
        let c = and_parts (lettered line) (ltb 2 (length line)) b.0 in
        (c.0, ltb-true 2 (length line) c.1, eqb-true (get_or line (length line - 1) 0) line_feed a.1)

    leads : line ≡ get_or line 0 0 ∷ comma ∷ drop 2 line
    leads = led_by_letter line tests.0

    ends : line ≡ (get_or line 0 0 ∷ comma ∷ body line) ++ line_feed ∷ []
    ends =
        let k = length line - 1 - 2 in
        let long : 2 < length line = tests.1 in
        let all : length (drop 2 line) ≡ k + 1 = simp length-drop (omega arith) in
        let last : get_or (drop 2 line) k 0 ≡ line_feed = get_or-drop 2 line k 0 ∙ ap (λ i. get_or line i 0) (omega arith) ∙ tests.2 in
        leads
        ∙ ap (λ xs. get_or line 0 0 ∷ comma ∷ xs)
        (sym (take_all (k + 1) (drop 2 line) (omega arith)) ∙ take_more (drop 2 line) k 0 (omega arith) ∙ ap (λ x. take k (drop 2 line) ++ x ∷ []) last)

    numbered : (vs us : List ℕ) → numbers_in (body line) ≡ Some vs → vs ≡ us → (l : ℕ) → get_or line 0 0 ≡ l → line ≡ (l ∷ listed us) ++ line_feed ∷ []
    numbered vs us e s l g =
        ends ∙ ap₂ (λ x xs. (x ∷ xs) ++ line_feed ∷ []) g (numbers_spelled (body line) vs e ∙ ap listed s)

    opened : (m : Method) (vs us : List ℕ) → lettered (body line) ≡ true → method_of (get_or (body line) 0 0) ≡ Some m → numbers_in (drop 2 (body line)) ≡ Some vs → vs ≡ us
        → (l : ℕ) → get_or line 0 0 ≡ l → line ≡ (l ∷ comma ∷ letter_of m ∷ listed us) ++ line_feed ∷ []
    opened m vs us t e f s l g =
        ends ∙ ap₂ (λ x xs. (x ∷ comma ∷ xs) ++ line_feed ∷ []) g
        (led_by_letter (body line) t ∙ ap₂ (λ x xs. x ∷ xs) (method_letter _ m e) (numbers_spelled (drop 2 (body line)) vs f ∙ ap listed s))

    opened_writes : (l : ℕ) → get_or line 0 0 ≡ l → (call : Method → List ℕ → Call)
        → ((m : Method) (vs : List ℕ) → ((us : List ℕ) → vs ≡ us → line ≡ (l ∷ comma ∷ letter_of m ∷ listed us) ++ line_feed ∷ []) → Writes line (call m vs))
        → Writes line (opened_in call (body line))
    opened_writes l g call h =
        if_writes (lettered (body line)) _ (λ t. read_writes (method_of (get_or (body line) 0 0)) _ (λ m e. read_writes (numbers_in (drop 2 (body line))) (call m) (λ vs f.
        h m vs (λ us s. opened m vs us t e f s l g))))

    forge_writes : get_or line 0 0 ≡ forge_letter → Writes line (forged_in (drop 2 line))
    forge_writes g = read_writes (field_in (drop 2 line)) _ (λ to e. read_writes (field_in to.1) _ (λ from f.
        leads ∙ ap₂ (λ x xs. x ∷ comma ∷ xs) g (field_spelled (drop 2 line) to e ∙ ap (λ xs. decimal to.0 ++ comma ∷ xs) (field_spelled to.1 from f)
        ∙ simp (append_assoc, append-nil))))

    by_letter : Writes line (call_by (get_or line 0 0) line)
    by_letter =
        let b = get_or line 0 0 in
        letter_writes b start_letter _ _ (eqb b start_letter) refl (λ g. read_writes (numbers_in (body line)) start_with (λ vs e.
        if_writes (eqb (length vs) 1) _ (λ n. numbered vs _ e (one_number vs (eqb-true _ _ n)) start_letter g)))
        (letter_writes b carry_letter _ _ (eqb b carry_letter) refl (λ g. read_writes (numbers_in (body line)) carry_with (λ vs e.
        if_writes (eqb (length vs) 4) _ (λ n. numbered vs _ e (four_numbers vs (eqb-true _ _ n)) carry_letter g)))
        (letter_writes b forge_letter _ _ (eqb b forge_letter) refl forge_writes
        (letter_writes b open_by_count_letter _ _ (eqb b open_by_count_letter) refl (λ g. opened_writes open_by_count_letter g open_by_count (λ m vs h.
        if_writes (eqb (length vs) (5 + get_or vs 1 0)) _ (λ n. h _ (led_by_five vs (omega (arith, eqb-true (length vs) (5 + get_or vs 1 0) n))))))
        (letter_writes b open_by_sets_letter _ _ (eqb b open_by_sets_letter) refl (λ g. opened_writes open_by_sets_letter g open_by_sets (λ m vs h.
        if_writes (eqb (length vs) (5 + get_or vs 2 0 + get_or vs 1 0)) _ (λ n. h _ (sets_lead vs (eqb-true (length vs) (5 + get_or vs 2 0 + get_or vs 1 0) n))))) tt))))

  in_writes : Writes line (call_in line)
  unfolding call_in
  in_writes = if_writes (whole line) (call_by (get_or line 0 0) line) by_letter

  pub told_writes : (c : Call) → c ≡ call_in line → Writes line c
  told_writes c e = let P : Call → Type 0 = Writes line in subst P (sym e) in_writes
