-- A call that posts nothing leaves an empty scratch. Assumes nothing.
use Rattle.std.proofs.Common.{◌≡◌, true, eqb, [], length, replicate, sym}
use Rattle.std.proofs.lemmas.Bool.{eqb-true}
use Rattle.std.proofs.lemmas.List.{nil_from_length}
use Rattle.wire.specs.declared.posted.Posted.{Posted}
use Rattle.wire.specs.Slips.{words_of, frames_of}
use Rattle.group.specs.declared.turn.Done.{Done}
use Rattle.group.specs.Calls.{Yield, yield_of}

pub quiet_turn : (d : Done) (p : Posted) → eqb (length (words_of p)) 0 ≡ true → ◌≡◌ {A = Yield} record { turn = record { done = d; words = 0 }; scratch = replicate 114 0 } (yield_of d p)
unfolding frames_of
quiet_turn d p none =
    let empty : words_of p ≡ [] = nil_from_length (words_of p) (eqb-true (length (words_of p)) 0 none) in
    sym (rw empty)
