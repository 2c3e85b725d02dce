-- The line that a call is written as is read as that call. Assumes nothing.
use Rattle.std.proofs.Common.{◌≡◌, ℕ, ◌+◌, ◌-◌, ◌*◌, ◌/◌, ◌%◌, ◌<◌, ◌≤◌, true, eqb, ltb, List, [], ◌∷◌, ◌++◌, length, get_or, take, Some, None, decimal, Option, sym, refl, ap, ◌∙◌, subst, ap₂, append_assoc, append-nil, arith, length-append}
use Rattle.std.specs.List.{AllByRecursion}
use Rattle.std.proofs.Math.Seq.{take-append_seam, drop-append_seam, get_or-append_seam}
use Rattle.std.proofs.lemmas.Fmt.{decimal_by_steps}
use Rattle.std.proofs.lemmas.List.Elements.{recursion_from_All}
use Rattle.std.proofs.lemmas.Bool.{eq-eqb, lt-ltb, le-leb, and_from, cond-true}
use Rattle.vote.specs.declared.Method.{Method}
use Rattle.vote.specs.declared.Method.TheVariants.{Plain, Echo}
use Rattle.numerals.specs.Numerals.{comma, max_number, and_then, digit, with_digit, number_on, number_in, numbers_in}
use Rattle.numerals.specs.Parts.{field_in}
use Rattle.vote.specs.Conversions.{method_of}
use Rattle.lines.specs.Calls.{Failing, by_count, by_sets, Opening, Call, unreadable, opens, starts_board, carries, forges}
use Rattle.lines.specs.Lines.{line_feed, max_line, open_by_count_letter, open_by_sets_letter, start_letter, carry_letter, forge_letter, readable, lettered, open_by_count, open_by_sets, opened_in, start_with, carry_with, forged_in, whole, body, call_by, call_in}
use Rattle.lines.specs.Texts.{letter_of, listed, opening_numbers, opening_text, numbers_of, text_of}
use Rattle.lines.specs.Readable.{WellFormed, EachCallIsReadable}
use Rattle.lines.proofs.Spelling.{then_some}
use Rattle.lines.proofs.Fields.{one_read, first_read, field_at}

-- ---- a number
is_digit : (d : ℕ) → d < 10 → digit (48 + d) ≡ true
is_digit d h = and_from _ _ (le-leb 48 (48 + d) (omega arith)) (le-leb (48 + d) 57 (omega arith))

first_digit : (d : ℕ) → d < 10 → with_digit None (48 + d) ≡ Some d
first_digit d h = rw (is_digit d h) (ap {B = Option ℕ} Some (omega arith))

further_digit : (n : ℕ) → 10 ≤ n → n ≤ max_number → with_digit (Some (n / 10)) (48 + n % 10) ≡ Some n
further_digit n more small =
    let same : n / 10 * 10 + (48 + n % 10 - 48) ≡ n = omega arith in
    cond-true _ _ None (and_from _ _ (and_from _ _ (is_digit (n % 10) (omega arith)) (lt-ltb 0 (n / 10) (omega arith))) (le-leb _ 65535 (omega arith)))
    ∙ ap {B = Option ℕ} Some same

read_on : (p q : List ℕ) (o : Option ℕ) (w : ℕ) → number_on o p ≡ Some w → number_on o (p ++ q) ≡ number_on (Some w) q
read_on [] q o w e = ap (λ (x : Option ℕ). number_on x q) e
read_on (b ∷ p) q o w e =
    let h = then_some (with_digit o b) (λ v. number_on (Some v) p) w e in
    ap (λ (x : Option ℕ). and_then x (λ v. number_on (Some v) (p ++ q))) h.1 ∙ read_on p q (Some h.0) w h.2

-- the bytes write the number, which is not too large
abbrev Reads : ℕ → List ℕ → Type 0
Reads n bs = n ≤ max_number → number_in bs ≡ Some n

decimal_reads : (n : ℕ) → n ≤ max_number → number_in (decimal n) ≡ Some n
decimal_reads n small =
    decimal_by_steps Reads
    (λ m l s. ap (λ (x : Option ℕ). and_then x (λ v. Some v)) (first_digit m l))
    (λ m ds l h s. read_on ds ((48 + m % 10) ∷ []) None (m / 10) (h (omega arith)) ∙ ap (λ (x : Option ℕ). and_then x (λ v. Some v)) (further_digit m l s))
    n (omega arith) small

-- ---- numbers with commas between
abbrev AllSmall : List ℕ → Type 0
AllSmall vs = AllByRecursion (λ v. v ≤ max_number) vs

each_read : (v : ℕ) (vs : List ℕ) → AllSmall (v ∷ vs) → numbers_in (decimal v ++ listed vs) ≡ Some (v ∷ vs)
each_read v [] h = ap numbers_in (append-nil (decimal v)) ∙ one_read (decimal v) v (decimal_reads v h.0)
each_read v (u ∷ us) h =
    first_read (decimal v) (decimal u ++ listed us) v (decimal_reads v h.0) ∙ ap (λ (o : Option (List ℕ)). and_then o (λ ws. Some (v ∷ ws))) (each_read u us h.1)

field_read : (v : ℕ) (rest : List ℕ) → v ≤ max_number → field_in (decimal v ++ comma ∷ rest) ≡ Some (v, rest)
field_read v rest h = field_at (decimal v) rest v (decimal_reads v h)

-- ---- a line of a letter, a comma, bytes and a line feed
abbrev ended : ℕ → List ℕ → List ℕ
ended a xs = (a ∷ comma ∷ xs) ++ line_feed ∷ []

module _ (a : ℕ) (xs : List ℕ) (short : length (ended a xs) ≤ max_line) where
  long : length (ended a xs) ≡ 3 + length xs
  long = omega (arith, length-append xs (line_feed ∷ []))

  is_whole : whole (ended a xs) ≡ true
  is_whole =
      let l = long in
      let n = length (ended a xs) in
      let place : n - 1 ≡ length (a ∷ comma ∷ xs) = omega arith in
      let last : get_or (ended a xs) (n - 1) 0 ≡ line_feed = ap (λ k. get_or (ended a xs) k 0) place ∙ get_or-append_seam (a ∷ comma ∷ xs) line_feed [] 0 in
      let more : ltb 1 n ≡ true = lt-ltb 1 n (omega arith) in
      and_from _ _ (and_from _ _ (and_from _ _ (and_from (ltb 1 n) true more refl) (lt-ltb 2 n (omega arith))) (le-leb n max_line short)) (eq-eqb _ _ last)

  inside : body (ended a xs) ≡ xs
  inside = ap (λ k. take k (xs ++ line_feed ∷ [])) (let l = long in omega arith) ∙ take-append_seam xs (line_feed ∷ [])

  by_letter : call_in (ended a xs) ≡ call_by a (ended a xs)
  unfolding call_in
  by_letter = cond-true (whole (ended a xs)) (call_by a (ended a xs)) unreadable is_whole

-- ---- each kind of call
start_read : (i : ℕ) → AllSmall (i ∷ []) → length (text_of (starts_board i)) ≤ max_line → call_in (text_of (starts_board i)) ≡ starts_board i
start_read i small short =
    let xs = decimal i ++ [] in
    by_letter start_letter xs short ∙ ap (λ (bs : List ℕ). readable (numbers_in bs) start_with) (inside start_letter xs short)
    ∙ ap (λ (o : Option (List ℕ)). readable o start_with) (each_read i [] small)

carry_read : (to from kind value : ℕ) → AllSmall (to ∷ from ∷ kind ∷ value ∷ []) → length (text_of (carries to from kind value)) ≤ max_line
    → call_in (text_of (carries to from kind value)) ≡ carries to from kind value
carry_read to from kind value small short =
    let xs = decimal to ++ listed (from ∷ kind ∷ value ∷ []) in
    by_letter carry_letter xs short ∙ ap (λ (bs : List ℕ). readable (numbers_in bs) carry_with) (inside carry_letter xs short)
    ∙ ap (λ (o : Option (List ℕ)). readable o carry_with) (each_read to (from ∷ kind ∷ value ∷ []) small)

forge_read : (to from : ℕ) (bs : List ℕ) → AllSmall (to ∷ from ∷ []) → length (text_of (forges to from (bs ++ line_feed ∷ []))) ≤ max_line
    → call_in (text_of (forges to from (bs ++ line_feed ∷ []))) ≡ forges to from (bs ++ line_feed ∷ [])
forge_read to from bs small short =
    let bytes = bs ++ line_feed ∷ [] in
    let xs = decimal to ++ comma ∷ (decimal from ++ comma ∷ bs) in
    let same : text_of (forges to from bytes) ≡ ended forge_letter xs = ap (λ (ys : List ℕ). forge_letter ∷ comma ∷ ys) (simp (append_assoc, append-nil)) in
    let rest : xs ++ line_feed ∷ [] ≡ decimal to ++ comma ∷ (decimal from ++ comma ∷ bytes) = simp append_assoc in
    ap call_in same ∙ by_letter forge_letter xs (subst (λ (ys : List ℕ). length ys ≤ max_line) same short) ∙ ap forged_in rest
    ∙ ap (λ (o : Option (ℕ × List ℕ)). readable o (λ t. readable (field_in t.1) (λ f. forges t.0 f.0 f.1))) (field_read to (decimal from ++ comma ∷ bytes) small.0)
    ∙ ap (λ (o : Option (ℕ × List ℕ)). readable o (λ f. forges to f.0 f.1)) (field_read from bytes small.1.0)

-- the bytes behind an opening's letter
module _ (m : Method) (v : ℕ) (vs : List ℕ) (small : AllSmall (v ∷ vs)) (call : Method → List ℕ → Call) where
  abbrev head : List ℕ
  head = letter_of m ∷ listed (v ∷ vs)

  of_letter : (n : Method) → method_of (letter_of n) ≡ Some n
  of_letter Plain = refl
  of_letter Echo = refl

  is_lettered : lettered head ≡ true
  is_lettered = and_from (ltb 1 (length head)) true (lt-ltb 1 (length head) (omega arith)) refl

  head_read : opened_in call head ≡ call m (v ∷ vs)
  head_read =
      cond-true (lettered head) _ unreadable is_lettered
      ∙ ap (λ (o : Option Method). readable o (λ n. readable (numbers_in (decimal v ++ listed vs)) (call n))) (of_letter m)
      ∙ ap (λ (o : Option (List ℕ)). readable o (call m)) (each_read v vs small)

by_count_counted : (m : Method) (d n f k b : ℕ) (starts : List ℕ) → length starts ≡ n
    → open_by_count m (d ∷ n ∷ f ∷ k ∷ b ∷ starts) ≡ opens (record { method = m; depth = d; crew = n; failing = by_count f; characters = k; bad = b; starts = starts })
by_count_counted m d n f k b starts e = cond-true (eqb (length (d ∷ n ∷ f ∷ k ∷ b ∷ starts)) (5 + n)) _ unreadable (eq-eqb _ _ (omega arith))

by_sets_counted : (m : Method) (d n k b : ℕ) (ss starts : List ℕ) → length starts ≡ n
    → open_by_sets m (d ∷ n ∷ length ss ∷ k ∷ b ∷ (ss ++ starts)) ≡ opens (record { method = m; depth = d; crew = n; failing = by_sets ss; characters = k; bad = b; starts = starts })
by_sets_counted m d n k b ss starts e =
    cond-true (eqb (length (d ∷ n ∷ length ss ∷ k ∷ b ∷ (ss ++ starts))) (5 + length ss + n)) _ unreadable (eq-eqb _ _ (omega (arith, length-append ss starts)))
    ∙ ap₂ (λ (x y : List ℕ). opens (record { method = m; depth = d; crew = n; failing = by_sets x; characters = k; bad = b; starts = y })) (take-append_seam ss starts) (drop-append_seam ss starts)

open_read : (o : Opening) (failing : Failing) → length o.starts ≡ o.crew → AllSmall (opening_numbers o failing) → length (opening_text o failing ++ line_feed ∷ []) ≤ max_line
    → call_in (opening_text o failing ++ line_feed ∷ []) ≡ opens (record o { failing = failing })
open_read o (by_count f) e small short =
    let vs = o.crew ∷ f ∷ o.characters ∷ o.bad ∷ o.starts in
    let xs = letter_of o.method ∷ listed (o.depth ∷ vs) in
    by_letter open_by_count_letter xs short ∙ ap (opened_in open_by_count) (inside open_by_count_letter xs short)
    ∙ head_read o.method o.depth vs small open_by_count ∙ by_count_counted o.method o.depth o.crew f o.characters o.bad o.starts e
open_read o (by_sets ss) e small short =
    let vs = o.crew ∷ length ss ∷ o.characters ∷ o.bad ∷ (ss ++ o.starts) in
    let xs = letter_of o.method ∷ listed (o.depth ∷ vs) in
    by_letter open_by_sets_letter xs short ∙ ap (opened_in open_by_sets) (inside open_by_sets_letter xs short)
    ∙ head_read o.method o.depth vs small open_by_sets ∙ by_sets_counted o.method o.depth o.crew o.characters o.bad ss o.starts e

read_back : (x : Call) → WellFormed x → AllSmall (numbers_of x) → length (text_of x) ≤ max_line → call_in (text_of x) ≡ x
read_back unreadable w small short = absurd w
read_back (opens o) w small short = open_read o o.failing w small short
read_back (starts_board i) w small short = start_read i small short
read_back (carries to from kind value) w small short = carry_read to from kind value small short
read_back (forges to from bytes) w small short =
    let P : List ℕ → Type 0 = λ bytes. length (text_of (forges to from bytes)) ≤ max_line → call_in (text_of (forges to from bytes)) ≡ forges to from bytes in
    subst P (sym w.1) (forge_read to from w.0 small) short

pub each_call_is_readable : EachCallIsReadable
unfolding EachCallIsReadable
each_call_is_readable x w = read_back x w.well_formed (recursion_from_All (λ v. v ≤ max_number) (numbers_of x) w.small) w.short
