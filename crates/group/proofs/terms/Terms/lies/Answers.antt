use Rattle.std.proofs.Common.{◌∙◌, sym, arith}
use Rattle.std.proofs.lemmas.Bool.{le-ltb}
use Rattle.quorum.specs.Members.{member_lt}
use Rattle.quorum.specs.Truth.{false_unless}
use Rattle.group.proofs.Fits.{listed_lies}
use Rattle.group.proofs.terms.Terms.lies.Goals as goal

pub returns-else-board-lt16 : goal.returns-else-board-lt16
returns-else-board-lt16 c R =
    le-ltb _ _ (omega arith)
    ∙ sym (false_unless _ (λ m. let l = member_lt 16 c.args.self.now.listed c.args.board (omega arith) m in omega (arith, l))) ∙ listed_lies R c.args.self.now c.args.board c.in-Echo.is
