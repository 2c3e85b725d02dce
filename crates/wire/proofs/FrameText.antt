-- A frame carries a word just where its bytes are the word's own, and it is short. Assumes nothing.
use Rattle.std.proofs.Common.{◌≡◌, ℕ, ◌+◌, ◌^◌, ◌<◌, ◌≤◌, Bool, true, false, ◌&&◌, eqb, ltb, leb, List, [], ◌∷◌, ◌++◌, length, get_or, drop, IfOk, Ok, Err, decimal, Result, sym, refl, ap, ◌∙◌, subst, ap₂, add-zero, zero-add, arith, lit<}
use Rattle.std.proofs.lemmas.Fmt.{length-decimal-le}
use Rattle.std.proofs.lemmas.List.{append_assoc, append-nil, length-append, length_push, length-drop, drop-drop, drop_at, drop_more, drop_all, get_or-drop}
use Rattle.std.proofs.lemmas.Bool.{cond-true, and_from, and_parts, ltb-true, lt-ltb, leb-true, le-leb, eqb-true, eq-eqb}
use Rattle.wire.specs.declared.fault.FrameFault.{FrameFault}
use Rattle.wire.specs.declared.word.Word.{Word}
use Rattle.wire.specs.Fields.{is_digit, is_within, stands, and_then, field_at, after_byte}
use Rattle.wire.specs.Frames.{field_bytes, frame_of, ended_field, frame_at, word_in, carried}
use Rattle.wire.specs.Limits.{max_id, max_sender, max_kind, max_value, frame_max, comma, line_feed}
use Rattle.wire.proofs.Outcomes.{ok_when, ok_then}
use Rattle.wire.proofs.FieldText.{field_reads, field_is}

module _ (xs : List ℕ) (q b : ℕ) where
  byte_stands : (rest : List ℕ) → drop q xs ≡ b ∷ rest → stands xs q b ≡ true
  byte_stands rest at = and_from (ltb q (length xs)) (eqb (get_or xs q 0) b)
      (lt-ltb q (length xs) (omega (arith, length-drop q xs, ap length at)))
      (eq-eqb (get_or xs q 0) b (ap (λ k. get_or xs k 0) (sym (add-zero q)) ∙ sym (get_or-drop q xs 0 0) ∙ ap (λ s. get_or s 0 0) at))

  byte_reads : (rest : List ℕ) → drop q xs ≡ b ∷ rest → after_byte xs q b ≡ Ok (q + 1)
  byte_reads rest at = cond-true (stands xs q b) _ _ (byte_stands rest at)

  byte_is : (e : ℕ) → after_byte xs q b ≡ Ok e → (drop q xs ≡ b ∷ drop e xs) × (e ≡ q + 1)
  byte_is e so =
      let s = ok_when (stands xs q b) _ (q + 1) e so in
      let t = and_parts (ltb q (length xs)) (eqb (get_or xs q 0) b) s.0 in (
        drop_more xs q 0 (ltb-true q (length xs) t.0) ∙ ap₂ (λ x k. x ∷ drop k xs) (eqb-true (get_or xs q 0) b t.1) s.1,
        sym s.1,
      )

module _ (xs : List ℕ) (p n low high end : ℕ) where
  ended_reads : (rest : List ℕ) → drop p xs ≡ field_bytes n end ++ rest → is_digit end ≡ false → n < 2 ^ 64 → low ≤ n → n ≤ high → (ended_field xs p low high end ≡ Ok (n, p + length (field_bytes n end))) × (drop (p + length (field_bytes n end)) xs ≡ rest)
  unfolding ended_field
  ended_reads rest at stop h l u =
      let apart : drop p xs ≡ decimal n ++ (end ∷ rest) = at ∙ append_assoc (decimal n) (end ∷ []) rest in
      let after : drop (p + length (decimal n)) xs ≡ end ∷ rest =
      sym (drop-drop (length (decimal n)) p xs) ∙ ap (drop (length (decimal n))) apart ∙ drop_at (decimal n) (end ∷ rest) (length (decimal n)) refl in
      let place : p + length (decimal n) + 1 ≡ p + length (field_bytes n end) = omega (arith, length_push (decimal n) end) in (
        ap (λ r. and_then r (λ f. and_then (after_byte xs f.1 end) (λ e. Ok (f.0, e)))) (field_reads xs p n low high (end ∷ rest) apart stop h l u)
            ∙ ap (λ r. and_then r (λ e. Ok (n, e))) (byte_reads xs (p + length (decimal n)) end rest after)
            ∙ ap (λ k. Ok (n, k)) place,
        sym (drop-drop (length (field_bytes n end)) p xs) ∙ ap (drop (length (field_bytes n end))) at ∙ drop_at (field_bytes n end) rest (length (field_bytes n end)) refl,
      )

-- an accepted field and its end are the number in base ten and that byte
ended_is : (xs : List ℕ) (p low high end : ℕ) (x : ℕ × ℕ) → high < 2 ^ 64 → ended_field xs p low high end ≡ Ok x → (drop p xs ≡ field_bytes x.0 end ++ drop x.1 xs) × (x.1 ≡ p + length (field_bytes x.0 end)) × (low ≤ x.0) × (x.0 ≤ high)
unfolding ended_field
ended_is xs p low high end x fits so =
    let s = ok_then (field_at xs p low high) _ x so in
    let f = s.0 in
    let t = ok_then (after_byte xs f.1 end) _ x s.2 in
    let is : (f.0, t.0) ≡ x = cc (t.2) in
    let number_is : f.0 ≡ x.0 = ap (λ y. y.0) is in
    let place_is : t.0 ≡ x.1 = ap (λ y. y.1) is in
    let digits = field_is xs p f.0 low high f.1 fits s.1 in
    let byte = byte_is xs f.1 end t.0 t.1 in (
      digits.0 ∙ ap (λ l. decimal f.0 ++ l) byte.0 ∙ sym (append_assoc (decimal f.0) (end ∷ []) (drop t.0 xs)) ∙ ap₂ (λ n k. field_bytes n end ++ drop k xs) number_is place_is,
      sym place_is ∙ byte.1 ∙ ap (λ k. k + 1) (digits.1 ∙ ap (λ n. p + length (decimal n)) number_is) ∙ omega (arith, length_push (decimal x.0) end),
      omega arith,
      omega arith,
    )

-- each number of a word that a frame can carry is within its field's range
pub record Ranges (w : Word) : Type 0 where
  pub group_low : 1 ≤ w.group
  pub group_high : w.group ≤ max_id
  pub change_low : 1 ≤ w.change
  pub change_high : w.change ≤ max_id
  pub sender_high : w.sender ≤ max_sender
  pub kind_low : 1 ≤ w.kind
  pub kind_high : w.kind ≤ max_kind
  pub value_high : w.value ≤ max_value

pub within_parts : (low high n : ℕ) → is_within low high n ≡ true → (low ≤ n) × (n ≤ high)
within_parts low high n e =
    let p = and_parts (leb low n) (leb n high) e in
    (leb-true low n p.0, leb-true n high p.1)

pub within_from : (low high n : ℕ) → low ≤ n → n ≤ high → is_within low high n ≡ true
within_from low high n l h = and_from (leb low n) (leb n high) (le-leb low n l) (le-leb n high h)

-- the five tests of a word
module _ (w : Word) where
  unfoldable pub of_group : Bool
  of_group = is_within 1 max_id w.group

  unfoldable pub of_change : Bool
  of_change = is_within 1 max_id w.change

  unfoldable pub of_sender : Bool
  of_sender = is_within 0 max_sender w.sender

  unfoldable pub of_kind : Bool
  of_kind = is_within 1 max_kind w.kind

  unfoldable pub of_value : Bool
  of_value = is_within 0 max_value w.value

  pub carried_ranges : carried w ≡ true → Ranges w
  unfolding carried of_group of_change of_sender of_kind of_value
  carried_ranges e =
      let g = and_parts of_group (of_change && (of_sender && (of_kind && of_value))) e in
      let c = and_parts of_change (of_sender && (of_kind && of_value)) g.1 in
      let s = and_parts of_sender (of_kind && of_value) c.1 in
      let k = and_parts of_kind of_value s.1 in
      record {
        group_low = (within_parts 1 max_id w.group g.0).0;
        group_high = (within_parts 1 max_id w.group g.0).1;
        change_low = (within_parts 1 max_id w.change c.0).0;
        change_high = (within_parts 1 max_id w.change c.0).1;
        sender_high = (within_parts 0 max_sender w.sender s.0).1;
        kind_low = (within_parts 1 max_kind w.kind k.0).0;
        kind_high = (within_parts 1 max_kind w.kind k.0).1;
        value_high = (within_parts 0 max_value w.value k.1).1;
      }

  pub ranges_carried : Ranges w → carried w ≡ true
  unfolding carried of_group of_change of_sender of_kind of_value
  ranges_carried r =
      and_from of_group (of_change && (of_sender && (of_kind && of_value))) (within_from 1 max_id w.group r.group_low r.group_high)
      (and_from of_change (of_sender && (of_kind && of_value)) (within_from 1 max_id w.change r.change_low r.change_high)
      (and_from of_sender (of_kind && of_value) (within_from 0 max_sender w.sender (omega arith) r.sender_high)
      (and_from of_kind of_value (within_from 1 max_kind w.kind r.kind_low r.kind_high)
      (within_from 0 max_value w.value (omega arith) r.value_high))))

  pub frame_max_length : Ranges w → length (frame_of w) ≤ frame_max
  unfolding frame_of
  frame_max_length r =
      simp length-append (omega (
        arith,
        length-decimal-le 5 w.group (lit< tt) (omega (arith, r.group_high)) (omega (arith, r.group_high)),
        length-decimal-le 5 w.change (lit< tt) (omega (arith, r.change_high)) (omega (arith, r.change_high)),
        length-decimal-le 2 w.sender (lit< tt) (omega (arith, r.sender_high)) (omega (arith, r.sender_high)),
        length-decimal-le 1 w.kind (lit< tt) (omega (arith, r.kind_high)) (omega (arith, r.kind_high)),
        length-decimal-le 1 w.value (lit< tt) (omega (arith, r.value_high)) (omega (arith, r.value_high)),
      ))

regroup : (a b c d e rest : List ℕ) → (a ++ (b ++ (c ++ (d ++ e)))) ++ rest ≡ a ++ (b ++ (c ++ (d ++ (e ++ rest))))
regroup a b c d e rest = simp append_assoc

lengths : (a b c d e : List ℕ) → length (a ++ (b ++ (c ++ (d ++ e)))) ≡ length a + (length b + (length c + (length d + length e)))
lengths a b c d e = simp length-append

pub frame_length : (w : Word) → length (frame_of w) ≡ length (field_bytes w.group comma) + (length (field_bytes w.change comma) + (length (field_bytes w.sender comma) + (length (field_bytes w.kind comma) + length (field_bytes w.value line_feed))))
unfolding frame_of
frame_length w = lengths (field_bytes w.group comma) (field_bytes w.change comma) (field_bytes w.sender comma) (field_bytes w.kind comma) (field_bytes w.value line_feed)

-- five places, each past what stands at the one before
places_chain : (p a b c d e g h s k v : ℕ) → g ≡ p + a → h ≡ g + b → s ≡ h + c → k ≡ s + d → v ≡ k + e → v ≡ p + (a + (b + (c + (d + e))))
places_chain p a b c d e g h s k v i j l m n = omega arith

-- the word's bytes at a place are read as the word
module _ (xs : List ℕ) (p : ℕ) (w : Word) (r : Ranges w) (rest : List ℕ) (at : drop p xs ≡ frame_of w ++ rest) where
  pub frame_reads : frame_at xs p ≡ Ok (w, p + length (frame_of w))
  unfolding frame_of
  frame_reads =
      let e = field_bytes w.value line_feed in
      let d = field_bytes w.kind comma in
      let c = field_bytes w.sender comma in
      let b = field_bytes w.change comma in
      let a = field_bytes w.group comma in
      let apart : drop p xs ≡ a ++ (b ++ (c ++ (d ++ (e ++ rest)))) = at ∙ regroup a b c d e rest in
      let g = ended_reads xs p w.group 1 max_id comma (b ++ (c ++ (d ++ (e ++ rest)))) apart refl (omega (arith, r.group_high)) r.group_low r.group_high in
      let h = ended_reads xs _ w.change 1 max_id comma (c ++ (d ++ (e ++ rest))) g.1 refl (omega (arith, r.change_high)) r.change_low r.change_high in
      let s = ended_reads xs _ w.sender 0 max_sender comma (d ++ (e ++ rest)) h.1 refl (omega (arith, r.sender_high)) (omega arith) r.sender_high in
      let k = ended_reads xs _ w.kind 1 max_kind comma (e ++ rest) s.1 refl (omega (arith, r.kind_high)) r.kind_low r.kind_high in
      let v = ended_reads xs _ w.value 0 max_value line_feed rest k.1 refl (omega (arith, r.value_high)) (omega arith) r.value_high in
      rw g.0 (rw h.0 (rw s.0 (rw k.0 (rw v.0 (ap (λ n. Ok (w, n)) (simp length-append (omega arith)))))))

-- five fields that are read one after the other are the bytes of their word
module _ (xs : List ℕ) (p : ℕ) (g c s k v : ℕ × ℕ) where
  read_word : Word
  read_word = record { group = g.0; change = c.0; sender = s.0; kind = k.0; value = v.0 }

  fields_are : ended_field xs p 1 max_id comma ≡ Ok g → ended_field xs g.1 1 max_id comma ≡ Ok c → ended_field xs c.1 0 max_sender comma ≡ Ok s → ended_field xs s.1 1 max_kind comma ≡ Ok k → ended_field xs k.1 0 max_value line_feed ≡ Ok v
      → Ranges read_word × (drop p xs ≡ frame_of read_word ++ drop v.1 xs) × (v.1 ≡ p + length (frame_of read_word))
  unfolding frame_of read_word
  fields_are ge ce se ke ve =
      let a = field_bytes g.0 comma in
      let b = field_bytes c.0 comma in
      let d = field_bytes s.0 comma in
      let e = field_bytes k.0 comma in
      let f = field_bytes v.0 line_feed in
      let gs = ended_is xs p 1 max_id comma g (lit< tt) ge in
      let cs = ended_is xs g.1 1 max_id comma c (lit< tt) ce in
      let ss = ended_is xs c.1 0 max_sender comma s (lit< tt) se in
      let ks = ended_is xs s.1 1 max_kind comma k (lit< tt) ke in
      let vs = ended_is xs k.1 0 max_value line_feed v (lit< tt) ve in (
        record { group_low = gs.2; group_high = gs.3; change_low = cs.2; change_high = cs.3; sender_high = ss.3; kind_low = ks.2; kind_high = ks.3; value_high = vs.3 },
        gs.0 ∙ ap (λ l. a ++ l) (cs.0 ∙ ap (λ l. b ++ l) (ss.0 ∙ ap (λ l. d ++ l) (ks.0 ∙ ap (λ l. e ++ l) vs.0))) ∙ sym (regroup a b d e f (drop v.1 xs)),
        places_chain p (length a) (length b) (length d) (length e) (length f) g.1 c.1 s.1 k.1 v.1 gs.1 cs.1 ss.1 ks.1 vs.1 ∙ ap (λ n. p + n) (sym (lengths a b d e f)),
      )

-- what is read as a word is the word's bytes
pub frame_is : (xs : List ℕ) (p : ℕ) (x : Word × ℕ) → frame_at xs p ≡ Ok x → Ranges x.0 × (drop p xs ≡ frame_of x.0 ++ drop x.1 xs) × (x.1 ≡ p + length (frame_of x.0))
unfolding read_word
frame_is xs p x so =
    let g = ok_then (ended_field xs p 1 max_id comma) _ x so in
    let c = ok_then (ended_field xs g.0.1 1 max_id comma) _ x g.2 in
    let s = ok_then (ended_field xs c.0.1 0 max_sender comma) _ x c.2 in
    let k = ok_then (ended_field xs s.0.1 1 max_kind comma) _ x s.2 in
    let v = ok_then (ended_field xs k.0.1 0 max_value line_feed) _ x k.2 in
    let is : (read_word xs p g.0 c.0 s.0 k.0 v.0, v.0.1) ≡ x = cc (v.2) in
    subst (λ (y : Word × ℕ). Ranges y.0 × (drop p xs ≡ frame_of y.0 ++ drop y.1 xs) × (y.1 ≡ p + length (frame_of y.0))) {x = (read_word xs p g.0 c.0 s.0 k.0 v.0, v.0.1)} is
    (fields_are xs p g.0 c.0 s.0 k.0 v.0 g.1 c.1 s.1 k.1 v.1)

-- that frame reads back as the word
pub word_reads : (w : Word) → Ranges w → word_in (frame_of w) ≡ Ok w
unfolding word_in
word_reads w r =
    let all : frame_at (frame_of w) 0 ≡ Ok (w, 0 + length (frame_of w)) = frame_reads (frame_of w) 0 w r [] (sym (append-nil (frame_of w))) in
    rw all (cond-true (eqb (0 + length (frame_of w)) (length (frame_of w))) _ _ (eq-eqb (0 + length (frame_of w)) (length (frame_of w)) (zero-add (length (frame_of w)))))

-- an accepted frame is the one its word has
pub word_is : (xs : List ℕ) (w : Word) → word_in xs ≡ Ok w → Ranges w × (xs ≡ frame_of w)
unfolding word_in
word_is xs w so =
    let f = ok_then (frame_at xs 0) _ w so in
    let t = ok_when (eqb f.0.1 (length xs)) _ f.0.0 w f.2 in
    let all = frame_is xs 0 f.0 f.1 in
    let past : drop f.0.1 xs ≡ [] = drop_all f.0.1 xs (omega (arith, eqb-true f.0.1 (length xs) t.0)) in (
      subst Ranges t.1 all.0,
      all.1 ∙ ap (λ l. frame_of f.0.0 ++ l) past ∙ append-nil (frame_of f.0.0) ∙ ap frame_of t.1,
    )

pub accepted_is : (r : Result Word FrameFault) (xs : List ℕ) → r ≡ word_in xs → IfOk r (λ w. (carried w ≡ true) × (xs ≡ frame_of w))
accepted_is (Ok w) xs e = let t = word_is xs w (sym e) in (ranges_carried w t.0, t.1)
accepted_is (Err f) xs e = tt

pub accepted_once : (r : Result Word FrameFault) (xs : List ℕ) → r ≡ word_in xs → IfOk r (λ w. (ys : List ℕ) → word_in ys ≡ Ok w → ys ≡ xs)
accepted_once (Ok w) xs e = λ ys f. (word_is ys w f).1 ∙ sym (word_is xs w (sym e)).1
accepted_once (Err f) xs e = tt
