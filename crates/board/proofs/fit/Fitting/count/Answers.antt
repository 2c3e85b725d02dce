use Rattle.board.proofs.Steps.{step_plain, step_echo, plain_shown, echo_shown}
use Rattle.board.proofs.fit.Fitting.count.Goals as goal
use Rattle.board.proofs.fit.Fitting.count.Goals.{in-Plain-Gathers, in-Echo-Echoes, in_default, in_default-2}

pub returns : goal.returns
returns g c =
    let R = g.R.FailureRule.meaning c.args.rule.now in
    let f = c.args.self.now.fit in
    elim c.match-self.branch [
      | in-Plain-Gathers w ↦
          rw (w.state-is, w.result-is)
          (step_plain R f c.args.vote c.args.state.now w.in-Plain-Gathers.plain w.count.new.self w.count.result w.in-Plain-Gathers.is-1 w.count.ensures.shows)
      | in-Echo-Echoes w ↦
          rw (w.state-is, w.result-is)
          (step_echo R f c.args.vote c.args.state.now w.in-Echo-Echoes.echo w.count-in-Echo-Echoes.new.self w.count-in-Echo-Echoes.result w.in-Echo-Echoes.is-1 w.count-in-Echo-Echoes.ensures.counts)
      | in_default w ↦ λ h shown. let other = (echo_shown R f h _ _ w.in_default.is-1 shown).0 in absurd (cc (w.in_default.is-0))
      | in_default-2 w ↦ λ h shown. let other = (plain_shown R f h _ _ w.in_default.is-1 shown).0 in absurd (cc (w.in_default.is-0))
    ]
