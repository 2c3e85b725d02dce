-- What is made of the numbers is made by the letter. Assumes nothing.
use Rattle.std.proofs.Common.{rules}
use Rattle.lines.specs.declared.plan.By.TheVariants.{Count, Sets}
use Rattle.lines.specs.Lines.{opening_in}
use Rattle.lines.proofs.opening.read_opening.Goals as goal

pub returns-in_ok-read_head-in-111-clause-call : goal.returns-in_ok-read_head-in-111-clause-call
unfolding opening_in
returns-in_ok-read_head-in-111-clause-call c = let k = c.open.ensures.call Count (λ n b e. search rules) in search rules

pub returns-in_ok-read_head-in-103-clause-call : goal.returns-in_ok-read_head-in-103-clause-call
unfolding opening_in
returns-in_ok-read_head-in-103-clause-call c = let k = c.open-in-103.ensures.call Sets (λ n b e. search rules) in search rules
