-- The step from a record that shows a history to one that shows it with the vote. Assumes nothing.
use Rattle.std.proofs.Common.{◌≡◌, false, ◌∷◌, sym, ◌∙◌, arith}
use Rattle.vote.specs.History.{seen}
use Rattle.heard.specs.Repeats.{repeats}
use Rattle.heard.specs.Shown.{setting_in, heard_of}
use Rattle.echo_board.proofs.Facts.{board_keeps}
use Rattle.echo_board.proofs.Memory.{heard_in}
use Rattle.echo_board.proofs.Step.{step_repeat, step_new}
use Rattle.echo_board.proofs.board.EchoRecord.count.Goals as goal

pub returns-then-repeats : goal.returns-then-repeats
returns-then-repeats g c =
    let S = setting_in c.args.voting.now in
    record {
      counts = λ s h e.
          step_repeat S s h c.args.vote c.args.self.now e
          (sym (c.repeats.ensures S.rule.crew h (omega arith) (heard_in S s h c.args.self.now e)) ∙ c.if-repeats.true);
      keeps = board_keeps S (g.met.R.FailureRule.lawful c.args.voting.now.rule.now);
    }

pub returns : goal.returns
returns g c =
    let S = setting_in c.args.voting.now in
    record {
      counts = λ s h e.
          let shown = heard_in S s h c.args.self.now e in
          let new : repeats h c.args.vote ≡ false = sym (c.repeats.ensures S.rule.crew h (omega arith) shown) ∙ c.if-repeats.false in
          let noted : c.note.new.self ≡ heard_of S.rule.crew (seen (c.args.vote ∷ h)) = c.note.ensures S.rule.crew h (omega arith) shown in
          step_new S s h c.args.vote c.args.self.now e (g.met.R.FailureRule.lawful c.args.voting.now.rule.now) (omega arith) (omega arith) (omega arith) (omega arith) new noted (c.find-found.ensures (seen (c.args.vote ∷ h)) noted) c.remember.ensures.after c.remember.ensures.news;
      keeps = board_keeps S (g.met.R.FailureRule.lawful c.args.voting.now.rule.now);
    }
