use Rattle.std.proofs.Common.{◌≡◌, ℕ, ◌-◌, ◌≤◌, List, length, take, drop, sym, ap, ◌∙◌, subst, arith}
use Rattle.std.specs.List.{flat_map}
use Rattle.wire.specs.Frames.{frame_of}
use Rattle.wire.specs.Slips.{if_held, words_of_kind}
use Rattle.wire.specs.Writes.{put_front}
use Rattle.wire.proofs.Counting.{held_frame, none_held}
use Rattle.wire.proofs.InOrder.{PuttingFront, putting_room, putting_behind, putting_none}
use Rattle.wire.proofs.posted.Posted.put_kind.Goals as goal
use Rattle.wire.proofs.posted.Posted.put_kind.Goals.{then-values-value-eq1, else-values-value-eq1}

pub put_frame-len-requires : goal.put_frame-len-requires
unfolding words_of_kind
put_frame-len-requires c =
    let p = c.args.self.now in
    let k = c.args.kind in
    let l = c.loop-value in
    subst (λ (bytes : List ℕ). length bytes ≤ length (take (length l.buf - l.len) (drop l.len l.buf)))
    (held_frame p k l.value c.if-values-value-eq1.true ∙ ap frame_of (sym c.word.ensures))
    (putting_room frame_of (if_held p k) c.args.buf.now 9 c.requires.room l.value l.len l.buf (omega arith) l.invariant (omega arith))

pub loop-value-preserved : goal.loop-value-preserved
unfolding words_of_kind
loop-value-preserved c =
    let p = c.args.self.now in
    let k = c.args.kind in
    let l = c.loop-value in
    elim c.if-values-value-eq1.branch [
      | then-values-value-eq1 w ↦
          let put = w.put_frame-len in
          let bytes_are : frame_of w.word.result ≡ flat_map frame_of (if_held p k l.value) = ap frame_of w.word.ensures ∙ sym (held_frame p k l.value w.if-values-value-eq1.true) in
          let more =
          putting_behind frame_of (if_held p k) c.args.buf.now 9 c.requires.room l.value l.len l.buf (omega arith) l.invariant put.result put.new.buf
          (put.ensures.value ∙ ap length bytes_are) (put.ensures.buffer ∙ ap (λ b. put_front b (take (length l.buf - l.len) (drop l.len l.buf))) bytes_are) in
          (w.len-is ∙ more.0, w.buf-is ∙ more.1)
      | else-values-value-eq1 w ↦
          let same = putting_none frame_of (if_held p k) c.args.buf.now 9 c.requires.room l.value l.len l.buf (omega arith) l.invariant (none_held p k l.value w.if-values-value-eq1.false) in
          (w.len-is ∙ same.0, w.buf-is ∙ same.1)
    ]

pub returns : goal.returns
unfolding words_of_kind
returns c =
    let l = c.loop-value in
    let end : l.value ≡ 9 = omega arith in
    let all = subst (λ (i : ℕ). PuttingFront frame_of (if_held c.args.self.now c.args.kind) c.args.buf.now i l.len l.buf) end l.invariant in
    record { value = all.0; buffer = all.1 }
