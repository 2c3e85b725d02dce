-- The marked frames have their answers: one computed equation over the whole table, and its rule at each entry. Assumes nothing.
use Rattle.std.proofs.Common.{◌≡◌, ℕ, List, [], map, length, get_or, sym, refl, ap, ◌∙◌}
use Rattle.std.proofs.lemmas.List.{get_or-map}
use Rattle.wire.specs.Fields.{field_at}
use Rattle.wire.specs.Frames.{ended_field, word_in}
use Rattle.wire.specs.Marked.{in_numbers, marked, MarkedCasesHold}

-- the length of a row's bytes and their answer, as they are, and as the row has them
given : List ℕ × ℕ × List ℕ → ℕ × List ℕ
given x = (length x.0, in_numbers (word_in x.0))

wanted : List ℕ × ℕ × List ℕ → ℕ × List ℕ
wanted x = (x.1, x.2)

answered : map given marked ≡ map wanted marked
unfolding given wanted word_in ended_field field_at
answered = refl

pub marked_cases_hold : MarkedCasesHold
unfolding given wanted MarkedCasesHold
marked_cases_hold i h =
    let is : given (get_or marked i ([], 0, [])) ≡ wanted (get_or marked i ([], 0, [])) =
    sym (get_or-map given marked i ([], 0, []) (0, []) h)
    ∙ ap (λ l. get_or l i (0, [])) answered
    ∙ get_or-map wanted marked i ([], 0, []) (0, []) h in
    (ap (λ x. x.0) is, ap (λ x. x.1) is)
