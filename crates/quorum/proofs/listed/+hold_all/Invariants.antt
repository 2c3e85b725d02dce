-- One set fewer is left to take at each call; none of the sets that were taken in turn was enough. Assumes nothing.
use Rattle.std.proofs.Common.{◌≡◌, ◌-◌, false, take, bit_or}
use Rattle.std.specs.List.{list_any}
use Rattle.quorum.specs.Listing.{held}
use Rattle.quorum.proofs.listed.+hold_all.Given as goal

abbrev pub decreases-hold_all : goal.decreases-hold_all
decreases-hold_all l = l.more

abbrev pub invariant-loop-set : goal.invariant-loop-set
invariant-loop-set l = list_any (λ m. held l.crew l.sets (l.more - 1) (bit_or l.have m)) (take l.set-index l.sets) ≡ false
