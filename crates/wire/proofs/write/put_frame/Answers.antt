use Rattle.std.proofs.Common.{◌≡◌, ◌≤◌, List, [], ◌∷◌, length, ap, ◌∙◌, ℕ, arith}
use Rattle.std.proofs.lemmas.List.{append_assoc}
use Rattle.wire.specs.declared.word.Word.{Word}
use Rattle.wire.specs.Limits.{comma, line_feed}
use Rattle.wire.specs.Frames.{field_bytes, frame_of}
use Rattle.wire.specs.Writes.{put_front}
use Rattle.wire.proofs.FrameText.{frame_length}
use Rattle.wire.proofs.PutFront.{Filling, filling_more}
use Rattle.wire.proofs.write.put_frame.Goals as goal

-- after the first field, the four others are left
first :
    (w : Word) (old : List ℕ) (n : ℕ) (buf : List ℕ) → length (frame_of w) ≤ length old → n ≡ length (field_bytes w.group comma) → buf ≡ put_front (field_bytes w.group comma) old
    → Filling (field_bytes w.group comma) old (field_bytes w.change comma ∷ field_bytes w.sender comma ∷ field_bytes w.kind comma ∷ field_bytes w.value line_feed ∷ []) n buf
first w old n buf fits long is = record { long = long; is = is; room = omega (arith, frame_length w) }

pub returns-clause-buffer : goal.returns-clause-buffer
unfolding frame_of
returns-clause-buffer c =
    let a = first c.args.word c.args.buf.now _ _ c.requires c.put_field-change.ensures.value c.put_field-change.ensures.buffer in
    let b = filling_more a c.put_field.ensures.value c.put_field.ensures.buffer in
    let d = filling_more b c.put_field-2.ensures.value c.put_field-2.ensures.buffer in
    let e = filling_more d c.put_field-3.ensures.value c.put_field-3.ensures.buffer in
    (filling_more e c.put_field-4.ensures.value c.put_field-4.ensures.buffer).is
    ∙ ap (λ l. put_front l c.args.buf.now) (simp append_assoc)
