-- What the rules of this crate mean, from the numbers that they hold. Assumes nothing.
use Rattle.fixed.specs.Items.{items_of}
use Rattle.quorum.specs.declared.count.CountRule.{CountRule}
use Rattle.quorum.specs.declared.listed.ListedRule.{ListedRule}
use Rattle.quorum.specs.declared.either.EitherRule.{EitherRule}
use Rattle.quorum.specs.declared.either.EitherRule.TheVariants.{Count, Listed}
use Rattle.quorum.specs.Rules.{Rule}
use Rattle.quorum.specs.Counting.{count_rule}
use Rattle.quorum.specs.Listing.{listed_rule}

abbrev pub meaning_of_count : CountRule → Rule
meaning_of_count x = count_rule x.crew x.cover x.f

abbrev pub meaning_of_listed : ListedRule → Rule
meaning_of_listed x = listed_rule x.crew x.cover (items_of x.sets)

abbrev pub either_rule : EitherRule → Rule
either_rule (Count x) = meaning_of_count x
either_rule (Listed x) = meaning_of_listed x
