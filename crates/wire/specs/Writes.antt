-- What is written into a buffer, and what a refused write leaves. Assumes nothing.
use Rattle.std.specs.Prelude.{ℕ, ◌+◌, ◌-◌, Bool, cond, List, [], ◌∷◌, ◌++◌, length, drop, replicate, is_ok, Some, None, Ok, Err, Option, Result, nat_le}
use Rattle.wire.specs.declared.fault.FrameFault.{FrameFault}
use Rattle.wire.specs.declared.word.Word.{Word}
use Rattle.wire.specs.Faults.{fault}
use Rattle.wire.specs.Fields.{is_within}
use Rattle.wire.specs.Frames.{field_bytes, frame_of}
use Rattle.wire.specs.Limits.{max_id, max_sender, max_kind, max_value, comma}

-- a buffer with bytes put over its front
abbrev pub put_front : List ℕ → List ℕ → List ℕ
put_front bytes old = bytes ++ drop (length bytes) old

-- bytes, and then zero bytes to the end of the room
abbrev pub zero_filled : List ℕ → ℕ → List ℕ
zero_filled bytes room = bytes ++ replicate (room - length bytes) 0

-- the buffer after a write of these bytes that answered r: they and zero bytes, or what it held
abbrev pub buffer_after : List ℕ → Result ℕ FrameFault → List ℕ → List ℕ
buffer_after bytes r old = cond (is_ok r) (zero_filled bytes (length old)) old

-- the answer of a write of these bytes: how many there are, or that the room is too short
abbrev pub fitting : List ℕ → ℕ → Result ℕ FrameFault
fitting bytes room = cond (nat_le (length bytes) room) (Ok (length bytes)) (Err (fault 20 0))

abbrev pub unless : {X : Type 0} → Option FrameFault → Result X FrameFault → Result X FrameFault
unless None r = r
unless (Some f) r = Err f

-- the place after a number's field that begins at p, where the number is in its range
abbrev pub place_behind : ℕ → ℕ → ℕ → ℕ → Result ℕ FrameFault
place_behind n low high p = cond (is_within low high n) (Ok (p + length (field_bytes n comma))) (Err (fault 13 p))

-- the fault of the first test that fails
abbrev pub first_failed : List (Bool × FrameFault) → Option FrameFault
first_failed [] = None
first_failed (t ∷ ts) = cond t.0 (first_failed ts) (Some t.1)

module _ (w : Word) where
  -- where the fields after the first begin in the word's frame
  abbrev pub change_place : ℕ
  change_place = length (field_bytes w.group comma)

  abbrev pub sender_place : ℕ
  sender_place = change_place + length (field_bytes w.change comma)

  abbrev pub kind_place : ℕ
  kind_place = sender_place + length (field_bytes w.sender comma)

  abbrev pub value_place : ℕ
  value_place = kind_place + length (field_bytes w.kind comma)

  -- the first number of the word that no frame can carry, by the place where its field would begin
  unfoldable pub range_fault : Option FrameFault
  range_fault = first_failed (
      (is_within 1 max_id w.group, fault 13 0)
      ∷ (is_within 1 max_id w.change, fault 13 change_place)
      ∷ (is_within 0 max_sender w.sender, fault 13 sender_place)
      ∷ (is_within 1 max_kind w.kind, fault 13 kind_place)
      ∷ (is_within 0 max_value w.value, fault 13 value_place)
      ∷ [])

  -- the answer of a write of the word into so much room
  abbrev pub word_written : ℕ → Result ℕ FrameFault
  word_written room = unless range_fault (fitting (frame_of w) room)
