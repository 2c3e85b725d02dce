-- The first that passes is the least. Assumes nothing.
use Rattle.std.proofs.Common.{◌≡◌, ◌≤◌, true, false, rules, tests}
use Rattle.std.proofs.lemmas.Iterator.{first_from_Range}
use Rattle.vote.proofs.Seeking.{seek_first}
use Rattle.vote.proofs.voting.Voting.lowest.Goals as goal

pub returns : goal.returns
returns g c = λ p f.
    seek_first c.args.self.now.characters p _
    (first_from_Range _ _ _ _ (λ v. v ≤ c.args.self.now.characters → p v ≡ true) (λ v. v ≤ c.args.self.now.characters → p v ≡ false) c.find.ensures.ran
    (λ x q k low. search (rules, tests)) (λ x q k. search (rules, tests)))
