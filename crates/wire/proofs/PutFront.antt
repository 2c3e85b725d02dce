-- Bytes put over the front of a buffer, one part after the other, and zero bytes behind them. Assumes nothing.
use Rattle.std.proofs.Common.{◌≡◌, ℕ, ◌+◌, ◌-◌, ◌<◌, ◌≤◌, List, [], ◌∷◌, ◌++◌, length, get_or, take, drop, set, replicate, sym, refl, ap, ◌∙◌, ap₂, ⊎_elim, arith}
use Rattle.std.proofs.lemmas.Bool.{cases_lt}
use Rattle.std.proofs.lemmas.List.{append_assoc, append-nil, length-append, length_push, length-drop, take_rest, drop_all, length-replicate, get_or-append_right, get_or-replicate, get_or_past, take_at, drop_at, drop-drop, drop_more, set_at}
use Rattle.std.proofs.lemmas.Slice.{take-put_mid_below}
use borrow.Rule.Slice.PartMut.{put_mid, post_of}
use Rattle.std.proofs.lemmas.Fmt.{decimal_digit}
use Rattle.wire.specs.Frames.{field_bytes}
use Rattle.wire.specs.Writes.{put_front, zero_filled}

-- what stands behind the bytes
behind : (n : ℕ) (a old : List ℕ) → n ≡ length a → drop n (put_front a old) ≡ drop n old
behind n a old e = drop_at a (drop (length a) old) n (sym e) ∙ ap (λ k. drop k old) (sym e)

pub length_put : (a old : List ℕ) → length a ≤ length old → length (put_front a old) ≡ length old
length_put a old room = length-append a (drop (length a) old) ∙ omega (arith, length-drop (length a) old)

-- one byte behind the bytes
pub put_byte : (n b : ℕ) (a old : List ℕ) → n ≡ length a → n < length old → set (put_front a old) n b ≡ put_front (a ++ (b ∷ [])) old
put_byte n b a old long room =
    ap (λ l. set (a ++ l) n b) (ap (λ k. drop k old) (sym long) ∙ drop_more old n 0 room)
    ∙ set_at a (get_or old n 0) (drop (n + 1) old) b n (sym long)
    ∙ sym (append_assoc a (b ∷ []) (drop (n + 1) old))
    ∙ ap (λ k. (a ++ (b ∷ [])) ++ drop k old) (omega (arith, length_push a b))

-- a field of one digit
pub digit_field : (n e : ℕ) → n < 10 → 2 ≡ length (field_bytes n e)
digit_field n e low = rw (decimal_digit n low)

pub put_digit : (n e : ℕ) (old : List ℕ) → n < 10 → 2 ≤ length old → set (set old 0 (48 + n)) 1 e ≡ put_front (field_bytes n e) old
put_digit n e old low room =
    ap (λ (l : List ℕ). set l 1 e) (put_byte 0 (48 + n) [] old refl (omega arith))
    ∙ put_byte 1 e ((48 + n) ∷ []) old refl (omega arith)
    ∙ ap (λ (l : List ℕ). put_front (l ++ e ∷ []) old) (sym (decimal_digit n low))

nothing_behind : (n : ℕ) (buf : List ℕ) → post_of n (length buf - n) buf ≡ []
nothing_behind n buf = drop_all (length buf - n) (drop n buf) (omega (arith, length-drop n buf))

-- what such a call has to write to
pub room_behind : (n m : ℕ) (buf : List ℕ) → n + m ≤ length buf → m ≤ length (take (length buf - n) (drop n buf))
room_behind n m buf fits = omega (arith, ap length (take_rest buf n), length-drop n buf)

-- a second part behind the first, put by a call that gets the rest of the buffer
pub put_behind : (n : ℕ) (a b old buf part : List ℕ) → n ≡ length a → length a ≤ length old → buf ≡ put_front a old → part ≡ put_front b (take (length buf - n) (drop n buf)) → put_mid n (length buf - n) buf part ≡ put_front (a ++ b) old
put_behind n a b old buf part long room is put =
    let same : length buf ≡ length old = ap length is ∙ length_put a old room in
    let none : post_of n (length buf - n) buf ≡ [] = nothing_behind n buf in
    ap (λ l. take n buf ++ (part ++ l)) none
    ∙ ap (λ l. take n buf ++ l) (append-nil part ∙ put ∙ ap (put_front b) (take_rest buf n))
    ∙ ap (λ u. take n u ++ put_front b (drop n u)) is
    ∙ ap₂ (λ x y. x ++ put_front b y) (take_at a (drop (length a) old) n (sym long)) (behind n a old long)
    ∙ sym (append_assoc a b (drop (length b) (drop n old)))
    ∙ ap (λ l. (a ++ b) ++ l) (drop-drop (length b) n old ∙ ap (λ k. drop k old) (omega (arith, length-append a b)))

-- bytes at the front of a buffer, and zero bytes behind them
module _ (bytes : List ℕ) where
  pub zero_behind : (room k : ℕ) → length bytes ≤ k → get_or (zero_filled bytes room) k 0 ≡ 0
  zero_behind room k le =
      let zeros : List ℕ = replicate (room - length bytes) 0 in
      get_or-append_right bytes zeros (length bytes) k 0 refl le
      ∙ ⊎_elim
      (λ lt. get_or-replicate (room - length bytes) (k - length bytes) 0 0 lt)
      (λ ge. get_or_past zeros (k - length bytes) 0 (omega (arith, length-replicate {A = ℕ} (room - length bytes) 0)))
      (cases_lt (k - length bytes) (room - length bytes))

-- bytes at the front of a buffer, and a call that wrote to the rest of it
module _ (n : ℕ) (bytes old buf part : List ℕ) (long : n ≡ length bytes) (room : length bytes ≤ length old) (is : buf ≡ put_front bytes old) where
  pub front_kept : (k : ℕ) → take n (put_mid n k buf part) ≡ bytes
  front_kept k =
      take-put_mid_below n k buf part n (omega arith) (omega (arith, ap length is, length_put bytes old room))
      ∙ ap (take n) is
      ∙ take_at bytes (drop (length bytes) old) n (sym long)

  -- zero bytes
  rest_filled : part ≡ replicate (length (take (length buf - n) (drop n buf))) 0 → put_mid n (length buf - n) buf part ≡ zero_filled bytes (length old)
  rest_filled zeros =
      let same : length buf ≡ length old = ap length is ∙ length_put bytes old room in
      let none : post_of n (length buf - n) buf ≡ [] = nothing_behind n buf in
      ap₂ (λ x y. x ++ (part ++ y)) (ap (take n) is ∙ take_at bytes (drop (length bytes) old) n (sym long)) none
      ∙ ap (λ l. bytes ++ l) (append-nil part ∙ zeros)
      ∙ ap (λ m. bytes ++ replicate m 0) (omega (arith, ap length (take_rest buf n), length-drop n buf))

  pub zero_from : part ≡ replicate (length (take (length buf - n) (drop n buf))) 0 → (k : ℕ) → n ≤ k → get_or (put_mid n (length buf - n) buf part) k 0 ≡ 0
  zero_from zeros k le = ap (λ b. get_or b k 0) (rest_filled zeros) ∙ zero_behind bytes (length old) k (omega arith)

-- how many bytes the parts have
abbrev pub bytes_in : List (List ℕ) → ℕ
bytes_in [] = 0
bytes_in (part ∷ parts) = length part + bytes_in parts

-- the bytes of some parts are put at the front, n of them, and there is room for the parts that are left
pub record Filling (done old : List ℕ) (left : List (List ℕ)) (n : ℕ) (buf : List ℕ) : Type 0 where
  pub long : n ≡ length done
  pub is : buf ≡ put_front done old
  pub room : length done + bytes_in left ≤ length old

module _ {done old part : List ℕ} {left : List (List ℕ)} {n : ℕ} {buf : List ℕ} (so : Filling done old (part ∷ left) n buf) where
  pub filling_more : {m : ℕ} {new : List ℕ} → m ≡ length part → new ≡ put_front part (take (length buf - n) (drop n buf)) → Filling (done ++ part) old left (n + m) (put_mid n (length buf - n) buf new)
  filling_more {m} {new} put_long put =
      let r : length done + (length part + bytes_in left) ≤ length old = so.room in
      record {
        long = omega (arith, so.long, length-append done part);
        is = put_behind n done part old buf new so.long (omega arith) so.is put;
        room = omega (arith, length-append done part);
      }
