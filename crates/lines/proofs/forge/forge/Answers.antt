-- Each number is read from where the one before it ended. Assumes nothing.
use Rattle.std.proofs.Common.{rules, ◌-◌, length, take, drop}
use Rattle.std.proofs.lemmas.List.{take_rest}
use Rattle.lines.proofs.Forging.{both}
use Rattle.lines.proofs.forge.forge.Goals as goal

pub returns-clause-call : goal.returns-clause-call
returns-clause-call c =
    let line = c.args.line.now in
    both line (take (length line - 2) (drop 2 line)) (take_rest line 2) (c.in_ok-to.to, c.in_ok-to.rest.now) (search rules) (c.in_ok-from.from, c.in_ok-from.forged.now) (search rules) (search rules)
