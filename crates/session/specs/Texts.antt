-- How an answer is written: letter, number, words, value and grade, parted by commas. Assumes nothing.
use Rattle.std.specs.Prelude.{ℕ, List, ◌++◌, Some, None, Ok, Err, Option, Result, codes, decimal}
use Rattle.vote.specs.declared.Decision.{Decision}
use Rattle.session.specs.declared.fault.SessionFault.{SessionFault}
use Rattle.session.specs.declared.reply.Played.{Played}
use Rattle.session.specs.declared.reply.Reply.{Reply}
use Rattle.session.specs.Faults.{refusal_of}
use Rattle.session.specs.Letters.{letter_text}

-- dashes where no board is named, or the one that is has not decided
abbrev pub decision_text : Option Decision → List ℕ
decision_text None = codes ",-,-"
decision_text (Some d) = codes "," ++ (decimal d.value ++ (codes "," ++ decimal d.grade))

-- the number of the refusal, or 0; a refused call posts nothing, and tells no decision
abbrev pub answer_text : Result Played SessionFault → List ℕ
answer_text (Ok p) = codes ",0," ++ (decimal p.words ++ decision_text p.decision)
answer_text (Err e) = codes "," ++ (decimal (refusal_of e).number ++ codes ",0,-,-")

abbrev pub reply_text : Reply → List ℕ
reply_text r = letter_text r.letter ++ answer_text r.answer
