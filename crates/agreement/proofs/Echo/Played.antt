-- The runs of the echo method that are written out happen: the checker computes them. Assumes nothing.
use Rattle.std.proofs.Common.{refl, arith}
use lib.Count.{ones, ones_in}
use Rattle.quorum.specs.Sets.{member, set_of, rest}
use Rattle.quorum.specs.Rules.{strong, ample}
use Rattle.quorum.specs.Few.{count_lawful}
use Rattle.vote.specs.declared.Depth.{Depth}
use Rattle.vote.specs.declared.Depth.TheVariants.{One, Two}
use Rattle.vote.specs.History.{counted, first, memo, ever}
use Rattle.vote.specs.Search.{seek}
use Rattle.vote.specs.Setting.{lowest, decision_on}
use Rattle.agreement.specs.Runs.{start_of, history, posted, decision, Crew}
use Rattle.agreement.specs.Echo.{approved, two_approved, mixed, parted, echoes, second, third, outcome, fifth, found, backed, verdict, said, echoed, posts, decided}
use Rattle.agreement.specs.Echo.Played.{setting, one_character, one_none, two_character, two_half, two_none, play, EchoRunsHappen}
use Rattle.agreement.proofs.Playing.{legal, happens}

crew : (d : Depth) → Crew (setting d)
unfolding ones ones_in
crew d = record { lawful = count_lawful 4 3 1 (omega arith); fits = omega arith; listed = 8; may_fail = refl }

pub echo_runs_happen : EchoRunsHappen
unfolding EchoRunsHappen crew legal ones ones_in member set_of rest strong ample counted first memo ever seek lowest start_of history posted decision approved two_approved mixed parted echoes second third outcome fifth found backed verdict said echoed posts decided
echo_runs_happen = (
  happens (play One one_character (decision_on 1 1)) (crew One) refl refl refl refl,
  (
    happens (play One one_none (decision_on 0 0)) (crew One) refl refl refl refl,
    (
      happens (play Two two_character (decision_on 2 1)) (crew Two) refl refl refl refl,
      (happens (play Two two_half (decision_on 1 1)) (crew Two) refl refl refl refl, (happens (play Two two_none (decision_on 0 0)) (crew Two) refl refl refl refl, tt)),
    ),
  ),
)
