-- Lists made one part after the other, as a loop makes them, and what is put of them. Assumes nothing.
use Rattle.std.proofs.Common.{◌≡◌, ℕ, zero, suc, ◌+◌, ◌-◌, ◌*◌, ◌<◌, ◌≤◌, List, [], ◌++◌, length, take, drop, sym, ap, ◌∙◌, ap₂, ⊎_elim, le_of_eq, add-mul, zero-mul, add-one, arith}
use Rattle.std.specs.List.{flat_map}
use Rattle.std.proofs.lemmas.Grind.{flat_map-append}
use Rattle.std.proofs.lemmas.List.{append-nil, length-append}
use Rattle.std.proofs.lemmas.Bool.{cases_eq}
use borrow.Rule.Slice.PartMut.{put_mid}
use Rattle.wire.specs.Slips.{in_order}
use Rattle.wire.specs.Writes.{put_front}
use Rattle.wire.proofs.PutFront.{room_behind, put_behind}

module _ {A B : Type 0} (g : A → List B) where
  module _ (f : ℕ → List A) where
    -- one part more
    pub joined_more : (n : ℕ) → flat_map g (in_order f (n + 1)) ≡ flat_map g (in_order f n) ++ flat_map g (f n)
    joined_more n = ap (λ k. flat_map g (in_order f k)) (add-one n) ∙ flat_map-append g (in_order f n) (f n)

    -- what is there after some parts is no longer than what is there after more
    pub joined_le : (i n : ℕ) → i ≤ n → length (flat_map g (in_order f i)) ≤ length (flat_map g (in_order f n))
    joined_le i zero h = let e : i ≡ 0 = omega arith in le_of_eq (ap (λ k. length (flat_map g (in_order f k))) e)
    joined_le i (suc n) h = ⊎_elim
        (λ e. le_of_eq (ap (λ k. length (flat_map g (in_order f k))) e))
        (λ ne. omega (arith, joined_le i n (omega arith), ap length (flat_map-append g (in_order f n) (f n)), length-append (flat_map g (in_order f n)) (flat_map g (f n))))
        (cases_eq i (suc n))

    -- parts of which each element weighs the same
    pub joined_weighs : (m n : ℕ) → ((i : ℕ) → i < n → length (flat_map g (f i)) ≡ length (f i) * m) → length (flat_map g (in_order f n)) ≡ length (in_order f n) * m
    joined_weighs m zero each = sym (zero-mul m)
    joined_weighs m (suc n) each =
        ap length (flat_map-append g (in_order f n) (f n))
        ∙ length-append (flat_map g (in_order f n)) (flat_map g (f n))
        ∙ ap₂ ◌+◌ (joined_weighs m n (λ i h. each i (omega arith))) (each n (omega arith))
        ∙ sym (add-mul (length (in_order f n)) (length (f n)) m)
        ∙ ap (λ k. k * m) (sym (length-append (in_order f n) (f n)))

-- a loop that puts the bytes of part after part
module _ {A : Type 0} (g : A → List ℕ) (f : ℕ → List A) (old : List ℕ) where
  abbrev pub PuttingFront : ℕ → ℕ → List ℕ → Type 0
  PuttingFront i len buf = (len ≡ length (flat_map g (in_order f i))) × (buf ≡ put_front (flat_map g (in_order f i)) old)

  module _ (n : ℕ) (room : length (flat_map g (in_order f n)) ≤ length old) (i len : ℕ) (buf : List ℕ) (lt : i < n) (so : PuttingFront i len buf) where
    more : length (flat_map g (in_order f (i + 1))) ≡ length (flat_map g (in_order f i)) + length (flat_map g (f i))
    more = ap length (joined_more g f i) ∙ length-append (flat_map g (in_order f i)) (flat_map g (f i))

    pub putting_room : length buf ≡ length old → length (flat_map g (f i)) ≤ length (take (length buf - len) (drop len buf))
    putting_room same = room_behind len (length (flat_map g (f i))) buf (omega (arith, more, joined_le g f (i + 1) n (omega arith)))

    pub putting_behind : (put : ℕ) (part : List ℕ) → put ≡ length (flat_map g (f i)) → part ≡ put_front (flat_map g (f i)) (take (length buf - len) (drop len buf)) → PuttingFront (i + 1) (len + put) (put_mid len (length buf - len) buf part)
    putting_behind put part put_is is = (
      omega (arith, more),
      put_behind len (flat_map g (in_order f i)) (flat_map g (f i)) old buf part so.0 (omega (arith, joined_le g f i n (omega arith))) so.1 is
          ∙ ap (λ l. put_front l old) (sym (joined_more g f i)),
    )

    -- a part without bytes
    pub putting_none : flat_map g (f i) ≡ [] → PuttingFront (i + 1) len buf
    putting_none none =
        let same : flat_map g (in_order f i) ≡ flat_map g (in_order f (i + 1)) = sym (joined_more g f i ∙ ap (λ l. flat_map g (in_order f i) ++ l) none ∙ append-nil (flat_map g (in_order f i))) in (
          so.0 ∙ ap length same,
          so.1 ∙ ap (λ l. put_front l old) same,
        )
