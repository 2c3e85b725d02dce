-- From each stage, by the word's kind. Assumes nothing.
use Rattle.std.proofs.Common.{◌≡◌, ◌≤◌, true, false, arith}
use Rattle.quorum.specs.Sets.{member}
use Rattle.plain_board.specs.Shown.{setting_in}
use Rattle.plain_board.specs.Step.{of_kind, Counts}
use Rattle.plain_board.proofs.Moves.{again, waits, waits_still, fixes, waits_on, compares, stays_decided}
use Rattle.plain_board.proofs.record.PlainRecord.count.Goals as goal
use Rattle.plain_board.proofs.record.PlainRecord.count.Goals.{in_default-via-in-Gathering-eq1+else-ample, in_default-via-in-Gathering+in_default, in_default-via-in-Comparing+in_default, in_default-via-in_default}

pub returns-then-not-note-clause-shows : goal.returns-then-not-note-clause-shows
unfolding Counts
returns-then-not-note-clause-shows g c = λ h e.
    let S = setting_in c.args.voting.now in
    let o = c.args.self.now in
    let there : member c.args.vote.sender (of_kind c.args.vote.kind o).all ≡ true = grind arith in
    again S c.args.vote h o _ e (omega arith) (omega arith) (omega arith) (omega arith) c.note.ensures.sender there

pub returns-in-Gathering-eq1-clause-shows : goal.returns-in-Gathering-eq1-clause-shows
unfolding Counts
returns-in-Gathering-eq1-clause-shows g c = λ h e.
    let S = setting_in c.args.voting.now in
    let o = c.args.self.now in
    let there : member c.args.vote.sender (of_kind c.args.vote.kind o).all ≡ false = grind arith in
    let few : c.common-branch.result ≤ 8 = omega (arith, c.common-branch.ensures.low) in
    fixes S c.args.vote h o _ e (omega arith) (omega arith) (omega arith) (omega arith) c.note.ensures.sender there c.on_branch.result c.in-Gathering-eq1.is-0
    c.if-ample.ensures.value c.common-branch.result few c.common-branch.ensures.value c.stage_on-self.result c.stage_on-self.ensures c.on_branch.ensures

pub returns-in-Comparing-eq2-clause-shows : goal.returns-in-Comparing-eq2-clause-shows
unfolding Counts
returns-in-Comparing-eq2-clause-shows g c = λ h e.
    let S = setting_in c.args.voting.now in
    let o = c.args.self.now in
    let there : member c.args.vote.sender (of_kind c.args.vote.kind o).all ≡ false = grind arith in
    compares S c.args.vote h o _ e (omega arith) (omega arith) (omega arith) (omega arith) c.note.ensures.sender there c.none.result c.in-Comparing-eq2.branch c.in-Comparing-eq2.is-0 c.none.ensures
    (omega arith) c.stage_on-self-in-Comparing-eq2.result c.stage_on-self-in-Comparing-eq2.ensures

pub returns-in_default-clause-shows : goal.returns-in_default-clause-shows
unfolding Counts
returns-in_default-clause-shows g c = λ h e.
    let S = setting_in c.args.voting.now in
    let o = c.args.self.now in
    let there : member c.args.vote.sender (of_kind c.args.vote.kind o).all ≡ false = grind arith in
    let news = c.none-in_default in
    elim c.in_default.branch [
      | in_default-via-in-Gathering-eq1+else-ample w ↦
          waits S c.args.vote h o _ e (omega arith) (omega arith) (omega arith) (omega arith) c.note.ensures.sender there news.result w.in-Gathering-eq1.is-0
          w.if-ample.ensures.value news.ensures
      | in_default-via-in-Gathering+in_default w ↦
          waits_still S c.args.vote h o _ e (omega arith) (omega arith) (omega arith) (omega arith) c.note.ensures.sender there news.result w.in_default.is-0
          (g.met.R.FailureRule.lawful c.args.voting.now.rule.now) (omega arith) w.in_default.is-1.1 news.ensures
      | in_default-via-in-Comparing+in_default w ↦
          waits_on S c.args.vote h o _ e (omega arith) (omega arith) (omega arith) (omega arith) c.note.ensures.sender there news.result
          w.in_default.field-0-0 w.in_default.is-0 news.ensures w.in_default.is-1.1
      | in_default-via-in_default w ↦
          stays_decided S c.args.vote h o _ e (omega arith) (omega arith) (omega arith) (omega arith) c.note.ensures.sender there news.result
          w.in_default.field-0-0 w.in_default.field-1-0 w.in_default.is-0 news.ensures
    ]
