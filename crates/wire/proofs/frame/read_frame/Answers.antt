use Rattle.std.proofs.Common.{Ok, rules, sym}
use Rattle.wire.specs.Frames.{word_in}
use Rattle.wire.proofs.FrameText.{accepted_is, accepted_once}
use Rattle.wire.proofs.frame.read_frame.Goals as goal

pub returns-in-Some-clause-an_accepted_frame_is_the_one_its_word_has : goal.returns-in-Some-clause-an_accepted_frame_is_the_one_its_word_has
returns-in-Some-clause-an_accepted_frame_is_the_one_its_word_has c = accepted_is (Ok c.in-Some.word) c.args.bytes.now (sym c.in-Some.ensures)

pub returns-in-Some-clause-each_word_has_one_frame : goal.returns-in-Some-clause-each_word_has_one_frame
returns-in-Some-clause-each_word_has_one_frame c = accepted_once (Ok c.in-Some.word) c.args.bytes.now (sym c.in-Some.ensures)

pub returns-clause-an_accepted_frame_is_the_one_its_word_has : goal.returns-clause-an_accepted_frame_is_the_one_its_word_has
unfolding word_in
returns-clause-an_accepted_frame_is_the_one_its_word_has c = accepted_is (Ok c.in_ok-word.word) c.args.bytes.now (search rules)

pub returns-clause-each_word_has_one_frame : goal.returns-clause-each_word_has_one_frame
unfolding word_in
returns-clause-each_word_has_one_frame c = accepted_once (Ok c.in_ok-word.word) c.args.bytes.now (search rules)
