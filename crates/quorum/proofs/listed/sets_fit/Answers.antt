-- Where the sets are not too many, each is asked. Assumes nothing.
use Rattle.std.proofs.Common.{length, rules, tests, arith}
use Rattle.std.proofs.lemmas.Bool.{le-leb}
use Rattle.std.proofs.lemmas.Iterator.{YieldsList-from_slice}
use Rattle.std.proofs.lemmas.Iterator.Search.{all_from_yields_List}
use Rattle.quorum.specs.Limits.{max_listed}
use Rattle.quorum.specs.Sets.{in_crew}
use Rattle.quorum.proofs.listed.sets_fit.Goals as goal

pub returns-then-sets-le-MAX_LISTED : goal.returns-then-sets-le-MAX_LISTED
returns-then-sets-le-MAX_LISTED c =
    let sets = c.args.sets.now in
    rw (le-leb (length sets) max_listed (omega arith))
    (all_from_yields_List (in_crew c.args.crew) _ _ _ c.all.ensures.ran (YieldsList-from_slice sets cc) (λ x b q k. search (rules, tests)))
