-- The first number of a word that no frame can carry. Assumes nothing.
use Rattle.std.proofs.Common.{◌≡◌, ℕ, ◌+◌, Bool, true, false, cond, ◌&&◌, List, [], ◌∷◌, length, Some, None, Ok, Err, Option, Result, refl, sym, ap, ◌∙◌, zero-add}
use Rattle.wire.specs.declared.fault.FrameFault.{FrameFault}
use Rattle.wire.specs.declared.word.Word.{Word}
use Rattle.wire.specs.Faults.{fault}
use Rattle.wire.specs.Fields.{is_within, and_then}
use Rattle.wire.specs.Frames.{field_bytes, carried}
use Rattle.wire.specs.Limits.{max_id, max_sender, max_kind, max_value, comma}
use Rattle.wire.specs.Writes.{change_place, sender_place, kind_place, value_place, place_behind, first_failed, unless, range_fault}
use Rattle.wire.proofs.FrameText.{Ranges, of_group, of_change, of_sender, of_kind, of_value, carried_ranges, ranges_carried}

-- a test more before the others: no fault is found where all pass
all_passed : (b c : Bool) (f : FrameFault) (x : Option FrameFault) → (x ≡ None → c ≡ true) → cond b x (Some f) ≡ None → (b && c) ≡ true
all_passed true c f x others e = others e
all_passed false c f x others e = cc

none_failed : (b c : Bool) (f : FrameFault) (x : Option FrameFault) → (c ≡ true → x ≡ None) → (b && c) ≡ true → cond b x (Some f) ≡ None
none_failed true c f x others e = others e
none_failed false c f x others e = cc

-- the last test
last_passed : (b : Bool) (f : FrameFault) → cond b None (Some f) ≡ None → b ≡ true
last_passed true f e = refl
last_passed false f e = cc

last_not_failed : (b : Bool) (f : FrameFault) → b ≡ true → cond b None (Some f) ≡ None
last_not_failed true f e = refl
last_not_failed false f e = cc

module _ (w : Word) where
  -- a word without a fault can be carried
  pub none_ranges : range_fault w ≡ None → Ranges w
  unfolding range_fault carried of_group of_change of_sender of_kind of_value
  none_ranges e =
      carried_ranges w
      (all_passed (of_group w) (of_change w && (of_sender w && (of_kind w && of_value w))) _ _
      (all_passed (of_change w) (of_sender w && (of_kind w && of_value w)) _ _
      (all_passed (of_sender w) (of_kind w && of_value w) _ _
      (all_passed (of_kind w) (of_value w) _ _ (last_passed (of_value w) _)))) e)

  -- a word that can be carried has no fault
  pub ranges_none : Ranges w → range_fault w ≡ None
  unfolding range_fault carried of_group of_change of_sender of_kind of_value
  ranges_none r =
      none_failed (of_group w) (of_change w && (of_sender w && (of_kind w && of_value w))) _ _
      (none_failed (of_change w) (of_sender w && (of_kind w && of_value w)) _ _
      (none_failed (of_sender w) (of_kind w && of_value w) _ _
      (none_failed (of_kind w) (of_value w) _ _ (last_not_failed (of_value w) _)))) (ranges_carried w r)

module _ {X : Type 0} where
  unless_ok : (o : Option FrameFault) (r : Result X FrameFault) (x : X) → unless o r ≡ Ok x → o ≡ None
  unless_ok None r x e = refl
  unless_ok (Some f) r x e = cc

  -- a word that a call let pass
  pub passed_ranges : (w : Word) (r s : Result X FrameFault) (x : X) → s ≡ unless (range_fault w) r → s ≡ Ok x → Ranges w
  passed_ranges w r s x is ok = none_ranges w (unless_ok (range_fault w) r x (sym is ∙ ok))

  -- a test more before the others, which gives the next place where it passes
  one_more : (b : Bool) (p : ℕ) (f : FrameFault) (tests : List (Bool × FrameFault)) (r : Result X FrameFault) (next : ℕ → Result X FrameFault) → unless (first_failed tests) r ≡ next p → unless (first_failed ((b, f) ∷ tests)) r ≡ and_then (cond b (Ok p) (Err f)) next
  one_more true p f tests r next e = e
  one_more false p f tests r next e = refl

  module _ (w : Word) (r : Result X FrameFault) where
    abbrev after_value : ℕ → Result X FrameFault
    after_value p = and_then (place_behind w.value 0 max_value p) (λ _. r)

    abbrev after_kind : ℕ → Result X FrameFault
    after_kind p = and_then (place_behind w.kind 1 max_kind p) after_value

    abbrev after_sender : ℕ → Result X FrameFault
    after_sender p = and_then (place_behind w.sender 0 max_sender p) after_kind

    abbrev after_change : ℕ → Result X FrameFault
    after_change p = and_then (place_behind w.change 1 max_id p) after_sender

    -- the ranges tested field by field, each from the place where the one before ends
    pub by_places : unless (range_fault w) r ≡ and_then (place_behind w.group 1 max_id 0) after_change
    unfolding range_fault
    by_places =
        let value = (is_within 0 max_value w.value, fault 13 (value_place w)) ∷ [] in
        let kind = (is_within 1 max_kind w.kind, fault 13 (kind_place w)) ∷ value in
        let sender = (is_within 0 max_sender w.sender, fault 13 (sender_place w)) ∷ kind in
        let change = (is_within 1 max_id w.change, fault 13 (change_place w)) ∷ sender in
        one_more (is_within 1 max_id w.group) (change_place w) (fault 13 0) change r after_change
        (one_more (is_within 1 max_id w.change) (sender_place w) (fault 13 (change_place w)) sender r after_sender
        (one_more (is_within 0 max_sender w.sender) (kind_place w) (fault 13 (sender_place w)) kind r after_kind
        (one_more (is_within 1 max_kind w.kind) (value_place w) (fault 13 (kind_place w)) value r after_value
        (one_more (is_within 0 max_value w.value) (value_place w + length (field_bytes w.value comma)) (fault 13 (value_place w)) [] r (λ _. r) refl))))
        ∙ ap (λ p. and_then (cond (is_within 1 max_id w.group) (Ok p) (Err (fault 13 0))) after_change) (sym (zero-add (change_place w)))
