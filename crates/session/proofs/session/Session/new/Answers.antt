use Rattle.std.proofs.Common.{[]}
use Rattle.session.specs.Standing.{stands_after}
use Rattle.session.proofs.session.Session.new.Goals as goal

pub invariant_of-result : goal.invariant_of-result
unfolding stands_after
invariant_of-result c = record { led = ∣ ([], tt) ∣₁ }
