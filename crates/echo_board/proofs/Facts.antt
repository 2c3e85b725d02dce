-- All that a board of the echo method keeps to, under a lawful rule. Assumes nothing.
use Rattle.quorum.specs.Rules.{Lawful}
use Rattle.vote.specs.Setting.{Setting}
use Rattle.echo_board.specs.Laws.{EchoFacts, EchoBoardKeeps}
use Rattle.echo_board.proofs.Once.{posts_same, decided_same}
use Rattle.echo_board.proofs.Stays.{word_stays, posted_once, one_word, decision_stays}
use Rattle.echo_board.proofs.Range.{words_in_range, decision_in_range}
use Rattle.echo_board.proofs.Six.{six_words}

pub echo_facts : (S : Setting) → Lawful S.rule → EchoFacts S
echo_facts S lawful = record {
  word_stays = λ start g h c v. word_stays S start g h c v;
  posted_once = λ start g h w c v. posted_once S start g h w c v;
  one_word_of_a_kind = λ start g h c u v. one_word S start g h c u v;
  decision_stays = decision_stays S;
  repeat_changes_nothing = λ start h w rep. (posts_same S h w rep start, decided_same S h w rep);
  words_in_range = words_in_range S;
  decision_in_range = decision_in_range S;
  six_words_at_most = λ start h w. six_words S lawful.nobody_fails start w h;
}

pub board_keeps : (S : Setting) → Lawful S.rule → EchoBoardKeeps S
unfolding EchoBoardKeeps
board_keeps S lawful = echo_facts S lawful
