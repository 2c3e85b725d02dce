-- The marked cases have their answers: one computed equation over the whole table, and its rule at each entry. Assumes nothing.
use Rattle.std.proofs.Common.{◌≡◌, ℕ, List, [], map, get_or, sym, refl, ap, ◌∙◌}
use lib.Count.{ones, ones_in}
use Rattle.std.proofs.lemmas.List.{get_or-map}
use Rattle.quorum.specs.Sets.{member, set_of, rest}
use Rattle.quorum.specs.Rules.{strong, ample}
use Rattle.vote.specs.declared.Vote.{Vote}
use Rattle.vote.specs.History.{counted, first, memo, ever}
use Rattle.vote.specs.Search.{seek}
use Rattle.vote.specs.Setting.{lowest}
use Rattle.agreement.specs.Echo.{approved, two_approved, mixed, parted, echoes, outcome, verdict, echoed, decided}
use Rattle.board.specs.Marked.{Question, decision, answer, marked, MarkedCasesHold}

given : Question × List Vote × List ℕ → List ℕ
given x = answer x.0 x.1

wanted : Question × List Vote × List ℕ → List ℕ
wanted x = x.2

answered : map given marked ≡ map wanted marked
unfolding given wanted marked ones ones_in member set_of rest strong ample counted first memo ever seek lowest approved two_approved mixed parted echoes outcome verdict echoed decided
answered = refl

pub marked_cases_hold : MarkedCasesHold
unfolding given wanted MarkedCasesHold
marked_cases_hold i h =
    sym (get_or-map given marked i (decision, [], []) [] h)
    ∙ ap (λ l. get_or l i []) answered
    ∙ get_or-map wanted marked i (decision, [], []) [] h
