-- Bytes put over a buffer from a place on, one part after the other, where the whole buffer is at hand. Assumes nothing.
use Rattle.std.proofs.Common.{◌≡◌, ℕ, ◌+◌, ◌-◌, ◌<◌, ◌≤◌, List, [], ◌∷◌, ◌++◌, length, take, drop, set, replicate, sym, refl, ap, ◌∙◌, ap₂, add-zero, add_assoc, add-one, arith}
use Rattle.std.specs.List.{flat_map}
use Rattle.std.proofs.lemmas.List.{append_assoc, length-append, length-take-le, length-drop, take_at, drop_at, drop-drop, take-append-drop, set_split}
use Rattle.wire.specs.Slips.{in_order}
use Rattle.wire.specs.Writes.{put_front, zero_filled}
use Rattle.wire.proofs.InOrder.{joined_more, joined_le}

-- a buffer with bytes put over it from a place on
abbrev pub put_at : ℕ → List ℕ → List ℕ → List ℕ
put_at at bytes old = take at old ++ (bytes ++ drop (at + length bytes) old)

-- put at the front they are what the contracts say
pub at_the_front : (bytes old : List ℕ) → put_at 0 bytes old ≡ put_front bytes old
at_the_front bytes old = let front : 0 + length bytes ≡ length bytes = omega arith in ap (λ n. bytes ++ drop n old) front

module _ (at : ℕ) (a old : List ℕ) (room : at + length a ≤ length old) where
  front_length : length (take at old ++ a) ≡ at + length a
  front_length = length-append (take at old) a ∙ ap (λ n. n + length a) (length-take-le at old (omega arith))

  regrouped : put_at at a old ≡ (take at old ++ a) ++ drop (at + length a) old
  regrouped = sym (append_assoc (take at old) a (drop (at + length a) old))

  pub length_put : length (put_at at a old) ≡ length old
  length_put = ap length regrouped ∙ length-append (take at old ++ a) (drop (at + length a) old) ∙ omega (arith, front_length, length-drop (at + length a) old)

  -- a second part behind the first
  pub put_put : (b : List ℕ) → put_at (at + length a) b (put_at at a old) ≡ put_at at (a ++ b) old
  put_put b =
      ap₂ (λ x y. x ++ (b ++ y))
      (ap (take (at + length a)) regrouped ∙ take_at (take at old ++ a) (drop (at + length a) old) (at + length a) front_length)
      (sym (drop-drop (length b) (at + length a) (put_at at a old))
      ∙ ap (drop (length b)) (ap (drop (at + length a)) regrouped ∙ drop_at (take at old ++ a) (drop (at + length a) old) (at + length a) front_length)
      ∙ drop-drop (length b) (at + length a) old
      ∙ ap (λ k. drop k old) (add_assoc at (length a) (length b) ∙ ap (λ n. at + n) (sym (length-append a b))))
      ∙ append_assoc (take at old) a (b ++ drop (at + length (a ++ b)) old)
      ∙ ap (λ l. take at old ++ l) (sym (append_assoc a b (drop (at + length (a ++ b)) old)))

-- one byte
pub put_byte : (at b : ℕ) (old : List ℕ) → at < length old → set old at b ≡ put_at at (b ∷ []) old
put_byte at b old h = set_split old at b h ∙ ap (λ k. take at old ++ (b ∷ drop k old)) (sym (add-one at))

-- no byte at all
pub put_none : (at : ℕ) (old : List ℕ) → old ≡ put_at at [] old
put_none at old = sym (take-append-drop at old) ∙ ap (λ k. take at old ++ drop k old) (sym (add-zero at))

-- a part more behind those that are put already
pub put_more : (at p : ℕ) (done part old buf : List ℕ) → at + length done ≤ length old → buf ≡ put_at at done old → p ≡ at + length done → put_at p part buf ≡ put_at at (done ++ part) old
put_more at p done part old buf room is place =
    ap₂ (λ k b. put_at k part b) place is ∙ put_put at done old room part

-- five parts, one behind the other
module _ (at p q r s : ℕ) (a b c d e old u v x y z : List ℕ) (room : at + (length a + (length b + (length c + (length d + length e)))) ≤ length old) where
  pub put_five : u ≡ put_at at a old → p ≡ at + length a → v ≡ put_at p b u → q ≡ p + length b → x ≡ put_at q c v → r ≡ q + length c → y ≡ put_at r d x → s ≡ r + length d → z ≡ put_at s e y → z ≡ put_at at (a ++ (b ++ (c ++ (d ++ e)))) old
  put_five us ps vs qs xs rs ys ss zs =
      let ab = length-append a b in
      let abc = length-append (a ++ b) c in
      let abcd = length-append (a ++ b ++ c) d in
      let second = vs ∙ put_more at p a b old u (omega arith) us ps in
      let third = xs ∙ put_more at q (a ++ b) c old v (omega arith) second (omega arith) in
      let fourth = ys ∙ put_more at r (a ++ b ++ c) d old x (omega arith) third (omega arith) in
      zs ∙ put_more at s (a ++ b ++ c ++ d) e old y (omega arith) fourth (omega arith) ∙ ap (λ l. put_at at l old) (simp append_assoc)

-- bytes at the front of a buffer, and zero bytes put behind them
pub put_and_clear : (bytes : List ℕ) (end : ℕ) (old buf new : List ℕ) → buf ≡ put_at 0 bytes old → end ≡ 0 + length bytes → length buf ≡ length old → new ≡ take end buf ++ replicate (length buf - end) 0 → new ≡ zero_filled bytes (length old)
put_and_clear bytes end old buf new put place same clear =
    let at : end ≡ length bytes = omega arith in
    clear
    ∙ ap₂ (λ k b. take k b ++ replicate (length buf - k) 0) at put
    ∙ ap₂ (λ l n. l ++ replicate (n - length bytes) 0) (take_at bytes (drop (0 + length bytes) old) (length bytes) refl) same

-- a loop that puts the bytes of part after part
module _ {A : Type 0} (g : A → List ℕ) (f : ℕ → List A) (at : ℕ) (old : List ℕ) where
  abbrev pub Putting : ℕ → ℕ → List ℕ → Type 0
  Putting i place buf = (place ≡ at + length (flat_map g (in_order f i))) × (buf ≡ put_at at (flat_map g (in_order f i)) old)

  module _ (n : ℕ) (room : at + length (flat_map g (in_order f n)) ≤ length old) (i place : ℕ) (buf : List ℕ) (lt : i < n) (so : Putting i place buf) where
    more : length (flat_map g (in_order f (i + 1))) ≡ length (flat_map g (in_order f i)) + length (flat_map g (f i))
    more = ap length (joined_more g f i) ∙ length-append (flat_map g (in_order f i)) (flat_map g (f i))

    pub putting_more : (next : ℕ) (new : List ℕ) → next ≡ place + length (flat_map g (f i)) → new ≡ put_at place (flat_map g (f i)) buf → Putting (i + 1) next new
    putting_more next new place_is put = (
      omega (arith, more),
      put
          ∙ put_more at place (flat_map g (in_order f i)) (flat_map g (f i)) old buf (omega (arith, joined_le g f i n (omega arith))) so.1 so.0
          ∙ ap (λ l. put_at at l old) (sym (joined_more g f i)),
    )
