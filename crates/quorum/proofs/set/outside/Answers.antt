-- The rest of a crew, as the code makes it. Assumes nothing.
use Rattle.std.proofs.Common.{ℕ, ◌-◌, ◌^◌, bit_and, sym, ap, ◌∙◌, arith}
use lib.Bits.{and_comm, and_mask}
use Rattle.std.proofs.lemmas.Nat.{one_shl}
use Rattle.quorum.proofs.Masks.{rest_is}
use Rattle.quorum.proofs.set.outside.Goals as goal

pub returns : goal.returns
returns c =
    let n = c.args.crew in
    let s = c.args.set in
    c.without.ensures
    ∙ ap (λ (x : ℕ). x - 1 - bit_and (x - 1) s) (one_shl n 32 (omega arith))
    ∙ ap (λ (x : ℕ). 2 ^ n - 1 - x) (and_comm (2 ^ n - 1) s ∙ and_mask s n)
    ∙ sym (rest_is n s)
