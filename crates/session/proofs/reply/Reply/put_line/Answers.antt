use Rattle.std.proofs.Common.{List, ℕ, [], ◌∷◌, ◌++◌, ap, ◌∙◌, arith}
use Rattle.std.proofs.lemmas.List.{take_all, length-append}
use Rattle.fixed.specs.Items.{items_of}
use Rattle.session.proofs.reply.Reply.put_line.Goals as goal

pub returns : goal.returns
returns c =
    let text = items_of c.put_text.new.text.bytes in
    c.add.ensures.gathers ∙ take_all 122 (text ++ 10 ∷ []) (omega (arith, c.put_text.ensures.short, length-append text (10 ∷ []))) ∙ ap (λ (l : List ℕ). l ++ 10 ∷ []) c.put_text.ensures.value
