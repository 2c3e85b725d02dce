-- The parts of the text, one after the other. Assumes nothing.
use Rattle.std.proofs.Common.{ℕ, ◌<◌, List, [], ◌∷◌, ◌++◌, length, decimal, ap, ◌∙◌, arith, codes}
use Rattle.std.proofs.lemmas.List.{take_all, length-append}
use Rattle.session.proofs.Gathering.{then}
use Rattle.session.proofs.Telling.{refused_text, undecided_text, decided_text}
use Rattle.session.proofs.reply.Reply.put_text.Goals as goal

pub returns-in-Err : goal.returns-in-Err
returns-in-Err c =
    let l = c.from.result in
    let n = c.from-in-Err-2.result in
    let whole : List ℕ = l ∷ 44 ∷ (decimal n ++ codes ",0,-,-") in
    let short : length whole < 122 = omega (arith, c.add_number.ensures.digits, length-append (decimal n) (codes ",0,-,-")) in
    let kept = then (l ∷ 44 ∷ decimal n) (codes ",0,-,-") (then (l ∷ 44 ∷ []) (decimal n) (then (l ∷ []) (44 ∷ []) (then [] (l ∷ []) c.clear.ensures c.add.ensures.gathers) c.add-in-Err.ensures.gathers) c.add_number.ensures.gathers) c.add_all.ensures in
    let is = kept ∙ take_all 122 whole (omega (arith, short)) in
    record {
      value = is ∙ refused_text c.args.self.now l c.from.ensures c.in-Err.fault n c.in-Err.is (c.from-in-Err-2.ensures ∙ ap (λ x. x.number) c.from-in-Err.ensures);
      short = omega (arith, short, ap length is);
    }

pub returns-in-None : goal.returns-in-None
returns-in-None c =
    let l = c.from.result in
    let n = c.in-Ok.played.words in
    let whole : List ℕ = l ∷ 44 ∷ 48 ∷ 44 ∷ (decimal n ++ codes ",-,-") in
    let short : length whole < 122 = omega (arith, c.add_number-in-Ok.ensures.digits, length-append (decimal n) (codes ",-,-")) in
    let front : List ℕ = l ∷ 44 ∷ 48 ∷ 44 ∷ [] in
    let kept = then (front ++ decimal n) (codes ",-,-") (then front (decimal n) (then (l ∷ []) (codes ",0,") (then [] (l ∷ []) c.clear.ensures c.add.ensures.gathers) c.add_all-in-Ok.ensures) c.add_number-in-Ok.ensures.gathers) c.add_all-in-None.ensures in
    let is = kept ∙ take_all 122 whole (omega (arith, short)) in
    record {
      value = is ∙ undecided_text c.args.self.now l c.from.ensures c.in-Ok.played c.in-Ok.is c.in-None.is;
      short = omega (arith, short, ap length is);
    }

pub returns-in-Some : goal.returns-in-Some
returns-in-Some c =
    let l = c.from.result in
    let n = c.in-Ok.played.words in
    let v = c.from-in-Some.result in
    let g = c.from-in-Some-2.result in
    let front : List ℕ = l ∷ 44 ∷ 48 ∷ 44 ∷ [] in
    let one : List ℕ = decimal n ++ codes "," in
    let two : List ℕ = one ++ decimal v in
    let three : List ℕ = two ++ codes "," in
    let whole : List ℕ = front ++ (three ++ decimal g) in
    let short : length whole < 122 =
    omega (arith, c.add_number-in-Ok.ensures.digits, c.add_number-in-Some.ensures.digits, c.add_number-in-Some-2.ensures.digits, length-append (decimal n) (codes ","), length-append one (decimal v), length-append two (codes ","), length-append three (decimal g)) in
    let kept_one = then (front ++ decimal n) (codes ",") (then front (decimal n) (then (l ∷ []) (codes ",0,") (then [] (l ∷ []) c.clear.ensures c.add.ensures.gathers) c.add_all-in-Ok.ensures) c.add_number-in-Ok.ensures.gathers) c.add-in-Some.ensures.gathers in
    let kept = then (front ++ three) (decimal g) (then (front ++ two) (codes ",") (then (front ++ one) (decimal v) kept_one c.add_number-in-Some.ensures.gathers) c.add-in-Some-2.ensures.gathers) c.add_number-in-Some-2.ensures.gathers in
    let is = kept ∙ take_all 122 whole (omega (arith, short)) in
    record {
      value = is ∙ rw (c.from-in-Some.ensures, c.from-in-Some-2.ensures) (decided_text c.args.self.now l c.from.ensures c.in-Ok.played c.in-Some.decision c.in-Ok.is c.in-Some.is);
      short = omega (arith, short, ap length is);
    }
