-- The text of an answer, from the bytes that are added one after the other. Assumes nothing.
use Rattle.std.proofs.Common.{◌≡◌, ℕ, ◌^◌, ◌<◌, ◌≤◌, List, [], ◌∷◌, ◌++◌, length, decimal, Some, None, Ok, Err, ap, ◌∙◌, arith, codes}
use Rattle.std.proofs.lemmas.Fmt.{length-decimal-le}
use Rattle.std.proofs.lemmas.List.{append_assoc}
use Rattle.vote.specs.declared.Decision.{Decision}
use Rattle.session.specs.declared.fault.SessionFault.{SessionFault}
use Rattle.session.specs.declared.reply.Played.{Played}
use Rattle.session.specs.declared.reply.Reply.{Reply}
use Rattle.session.specs.Faults.{refusal_of}
use Rattle.session.specs.Letters.{letter_text}
use Rattle.session.specs.Texts.{reply_text}

pub digits_fit : (n : ℕ) → n < 2 ^ 64 → length (decimal n) ≤ 20
digits_fit n fits = length-decimal-le 20 n (omega arith) (omega arith) fits

module _ (r : Reply) (l : ℕ) (letter : letter_text r.letter ≡ l ∷ []) where
  pub refused_text : (e : SessionFault) (n : ℕ) → r.answer ≡ Err e → n ≡ (refusal_of e).number → l ∷ 44 ∷ (decimal n ++ codes ",0,-,-") ≡ reply_text r
  refused_text e n p q = rw (letter, p, q)

  pub undecided_text : (p : Played) → r.answer ≡ Ok p → p.decision ≡ None → l ∷ 44 ∷ 48 ∷ 44 ∷ (decimal p.words ++ codes ",-,-") ≡ reply_text r
  undecided_text p is none = rw (letter, is, none)

  pub decided_text : (p : Played) (d : Decision) → r.answer ≡ Ok p → p.decision ≡ Some d
      → l ∷ 44 ∷ 48 ∷ 44 ∷ ((((decimal p.words ++ codes ",") ++ decimal d.value) ++ codes ",") ++ decimal d.grade) ≡ reply_text r
  decided_text p d is some =
      rw (letter, is, some) (ap (λ (x : List ℕ). l ∷ 44 ∷ 48 ∷ 44 ∷ x) parted)
    where
      parted : (((decimal p.words ++ codes ",") ++ decimal d.value) ++ codes ",") ++ decimal d.grade ≡ decimal p.words ++ (codes "," ++ (decimal d.value ++ (codes "," ++ decimal d.grade)))
      parted =
          append_assoc ((decimal p.words ++ codes ",") ++ decimal d.value) (codes ",") (decimal d.grade)
          ∙ append_assoc (decimal p.words ++ codes ",") (decimal d.value) (codes "," ++ decimal d.grade)
          ∙ append_assoc (decimal p.words) (codes ",") (decimal d.value ++ (codes "," ++ decimal d.grade))
