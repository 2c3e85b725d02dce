-- Frames: the bytes of a word, and the word that bytes carry, or why they carry none. Assumes nothing.
use Rattle.std.specs.Prelude.{ℕ, Bool, cond, ◌&&◌, List, [], ◌∷◌, ◌++◌, length, Ok, Err, decimal, Result, ◌==◌}
use Rattle.wire.specs.declared.fault.FrameFault.{FrameFault}
use Rattle.wire.specs.declared.word.Word.{Word}
use Rattle.wire.specs.Faults.{fault}
use Rattle.wire.specs.Fields.{is_within, and_then, field_at, after_byte}
use Rattle.wire.specs.Limits.{max_id, max_sender, max_kind, max_value, comma, line_feed}

-- a number in base ten, and the byte that ends its field
abbrev pub field_bytes : ℕ → ℕ → List ℕ
field_bytes n end = decimal n ++ (end ∷ [])

-- the one frame of a word
unfoldable pub frame_of : Word → List ℕ
frame_of w =
    field_bytes w.group comma
    ++ (field_bytes w.change comma
    ++ (field_bytes w.sender comma
    ++ (field_bytes w.kind comma
    ++ field_bytes w.value line_feed)))

-- a field and the byte that has to end it: the number, and the place after that byte
unfoldable pub ended_field : List ℕ → ℕ → ℕ → ℕ → ℕ → Result (ℕ × ℕ) FrameFault
ended_field xs p low high end =
    and_then (field_at xs p low high) (λ f. and_then (after_byte xs f.1 end) (λ e. Ok (f.0, e)))

-- the word of the frame that begins at p, and the place after its line feed
abbrev pub frame_at : List ℕ → ℕ → Result (Word × ℕ) FrameFault
frame_at xs p =
    and_then (ended_field xs p 1 max_id comma) (λ g.
    and_then (ended_field xs g.1 1 max_id comma) (λ c.
    and_then (ended_field xs c.1 0 max_sender comma) (λ s.
    and_then (ended_field xs s.1 1 max_kind comma) (λ k.
    and_then (ended_field xs k.1 0 max_value line_feed) (λ v.
    Ok (record { group = g.0; change = c.0; sender = s.0; kind = k.0; value = v.0 }, v.1))))))

-- the word that the bytes carry, which are one frame and nothing more
unfoldable pub word_in : List ℕ → Result Word FrameFault
word_in xs = and_then (frame_at xs 0) (λ f. cond (f.1 == length xs) (Ok f.0) (Err (fault 15 f.1)))

-- a word that a frame can carry: each number within its field's range
unfoldable pub carried : Word → Bool
carried w =
    is_within 1 max_id w.group
    && (is_within 1 max_id w.change
    && (is_within 0 max_sender w.sender
    && (is_within 1 max_kind w.kind
    && is_within 0 max_value w.value)))
