-- The lowest that passes is what is read. Assumes nothing.
use Rattle.std.proofs.Common.{sym, refl, ◌∙◌, rules, tests}
use Rattle.plain_board.proofs.Reading.{past_zero, borne, least_is}
use Rattle.plain_board.proofs.tally.least.Goals as goal

pub returns : goal.returns
returns g c = λ S x k f e.
    c.unwrap_or.ensures ∙ least_is S x k c.args.tally.now e c.args.voting.now.characters f c.args.voting.now.few c.lowest_character.result
    (sym (c.lowest_character.ensures (past_zero (borne c.args.tally.now)) refl (λ v b one l q. search (rules, tests))))
