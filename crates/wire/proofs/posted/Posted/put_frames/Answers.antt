use Rattle.std.proofs.Common.{◌≡◌, ℕ, suc, ◌+◌, ◌-◌, ◌≤◌, length, take, drop, ap, ◌∙◌, subst, arith}
use Rattle.std.specs.List.{flat_map}
use borrow.Rule.Slice.PartMut.{put_mid}
use Rattle.wire.specs.Frames.{frame_of}
use Rattle.wire.specs.Slips.{words_of_kind, words_of, frames_of}
use Rattle.wire.specs.Writes.{put_front}
use Rattle.wire.proofs.InOrder.{PuttingFront, putting_room, putting_behind}
use Rattle.wire.proofs.posted.Posted.put_frames.Goals as goal

pub put_kind-len-requires-clause-room : goal.put_kind-len-requires-clause-room
unfolding words_of frames_of
put_kind-len-requires-clause-room c =
    let l = c.loop-kind in
    let kind_is : suc (l.kind - 1) ≡ l.kind = omega arith in
    subst (λ (k : ℕ). length (flat_map frame_of (words_of_kind c.args.self.now k)) ≤ length (take (length l.buf - l.len) (drop l.len l.buf))) kind_is
    (putting_room frame_of (λ j. words_of_kind c.args.self.now (suc j)) c.args.buf.now 5 c.requires (l.kind - 1) l.len l.buf (omega arith) l.invariant (omega arith))

pub loop-kind-preserved : goal.loop-kind-preserved
unfolding words_of frames_of
loop-kind-preserved c =
    let p = c.args.self.now in
    let l = c.loop-kind in
    let put = c.put_kind-len in
    let frames_are : flat_map frame_of (words_of_kind p l.kind) ≡ flat_map frame_of (words_of_kind p (suc (l.kind - 1))) = ap (λ k. flat_map frame_of (words_of_kind p k)) (omega arith) in
    let next : l.kind - 1 + 1 ≡ l.kind + 1 - 1 = omega arith in
    subst (λ (i : ℕ). PuttingFront frame_of (λ j. words_of_kind p (suc j)) c.args.buf.now i (l.len + put.result) (put_mid l.len (length l.buf - l.len) l.buf put.new.buf)) next
    (putting_behind frame_of (λ j. words_of_kind p (suc j)) c.args.buf.now 5 c.requires (l.kind - 1) l.len l.buf (omega arith) l.invariant put.result put.new.buf
    (put.ensures.value ∙ ap length frames_are) (put.ensures.buffer ∙ ap (λ b. put_front b (take (length l.buf - l.len) (drop l.len l.buf))) frames_are))

pub returns : goal.returns
unfolding words_of frames_of
returns c =
    let p = c.args.self.now in
    let l = c.loop-kind in
    let end : l.kind - 1 ≡ 5 = omega arith in
    let all = subst (λ (i : ℕ). PuttingFront frame_of (λ j. words_of_kind p (suc j)) c.args.buf.now i l.len l.buf) end l.invariant in
    record { value = all.0; buffer = all.1 }
