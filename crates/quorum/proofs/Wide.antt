-- A set of 16 bits has no board from 16 up. Assumes nothing.
use Rattle.std.proofs.Common.{◌≡◌, ℕ, ◌^◌, ◌<◌, ◌≤◌, true, false, ltb, arith, pow_mono}
use Rattle.std.proofs.lemmas.Bool.{false_from_ne_true, lt-ltb}
use Rattle.quorum.specs.Sets.{member}
use Rattle.quorum.specs.Members.{member_lt}

pub none_beyond : (i s : ℕ) → s < 65536 → 16 ≤ i → member i s ≡ false
none_beyond i s small h = false_from_ne_true _ (λ m. let k = member_lt 16 s i small m in omega arith)

-- so each is within a crew of 16 or more
pub wide_crew : (s n : ℕ) → s < 65536 → 16 ≤ n → ltb s (2 ^ n) ≡ true
wide_crew s n small h = let p : 2 ^ 16 ≤ 2 ^ n = pow_mono h in lt-ltb s (2 ^ n) (omega arith)
