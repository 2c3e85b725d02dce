-- The lowest that passes is what is read. Assumes nothing.
use Rattle.std.proofs.Common.{◌≡◌, suc, sym, refl, ◌∙◌, rules, tests, arith}
use Rattle.vote.specs.Search.{seek}
use Rattle.plain_board.specs.Read.{agreed}
use Rattle.plain_board.proofs.Reading.{past_zero, found_low, common_is}
use Rattle.plain_board.proofs.tally.common.Goals as goal

pub returns : goal.returns
returns g c =
    let least : c.lowest_character.result ≡ seek (suc c.args.voting.now.characters) (past_zero (agreed c.args.tally.now)) = c.lowest_character.ensures (past_zero (agreed c.args.tally.now)) refl (λ v b one l q. search (rules, tests)) in
    record {
      low = omega (arith, c.unwrap_or.ensures, found_low c.args.voting.now.characters _ _ least);
      value = λ S x k f e. c.unwrap_or.ensures ∙ common_is S x k c.args.tally.now e c.args.voting.now.characters f c.args.voting.now.few c.lowest_character.result (sym least);
    }
