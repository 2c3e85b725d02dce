use Rattle.std.proofs.Common.{◌≡◌, ◌-◌, ◌*◌, ◌%◌, ◌^◌, get_or, set, ap, ◌∙◌, arith}
use lib.Bits.{bit_or}
use Rattle.std.proofs.lemmas.Nat.{one_shl}
use Rattle.wire.specs.Slips.{holds}
use Rattle.wire.proofs.Slipped.{word_added}
use Rattle.wire.proofs.posted.Posted.post.Goals as goal

pub returns-clause-one_more : goal.returns-clause-one_more
returns-clause-one_more c k v l h =
    let p = c.args.self.now in
    let kind = c.args.kind in
    let value = c.args.value in
    let bit : (1 * 2 ^ value) % 65536 ≡ 2 ^ value = one_shl value 16 (omega arith) in
    ap (λ b. holds (record { group = p.group; change = p.change; sender = p.sender; kinds = set p.kinds (kind - 1) (bit_or (get_or p.kinds (kind - 1) 0) b) }) k v) bit
    ∙ word_added p kind value (omega arith) (omega arith) (omega arith) k v l h
