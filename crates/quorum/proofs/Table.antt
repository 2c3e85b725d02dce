-- The marked cases, by one test that is computed over their table. Assumes nothing.
use Rattle.std.proofs.Common.{refl}
use Rattle.quorum.specs.Sets.{member, set_of, rest}
use Rattle.quorum.specs.Listing.{held}
use Rattle.quorum.specs.Asked.{MarkedCases}

pub marked_cases : MarkedCases
unfolding MarkedCases member set_of rest held
marked_cases = refl
