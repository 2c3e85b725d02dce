-- A word that is brought to a board as a frame. Assumes nothing.
use Rattle.std.proofs.Common.{◌≡◌, true, cond, length, Ok, Err, ap, ◌∙◌}
use Rattle.std.proofs.lemmas.Bool.{le-leb}
use Rattle.wire.specs.declared.word.Word.{Word}
use Rattle.wire.specs.Faults.{fault}
use Rattle.wire.specs.Frames.{carried, frame_of}
use Rattle.wire.specs.Writes.{word_written, fitting, unless}
use Rattle.wire.proofs.FrameText.{carried_ranges, frame_max_length}
use Rattle.wire.proofs.Ranging.{ranges_none}

-- a word that a frame can carry is written
pub written_is : (w : Word) → carried w ≡ true → word_written w 19 ≡ Ok (length (frame_of w))
written_is w p =
    let ranges = carried_ranges w p in
    ap (λ o. unless o (fitting (frame_of w) 19)) (ranges_none w ranges)
    ∙ ap (λ b. cond b (Ok (length (frame_of w))) (Err (fault 20 0))) (le-leb (length (frame_of w)) 19 (frame_max_length w ranges))
