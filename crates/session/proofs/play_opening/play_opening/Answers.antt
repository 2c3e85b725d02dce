use Rattle.std.proofs.Common.{refl}
use Rattle.fixed.specs.Items.{items_of}
use Rattle.lines.specs.Calls.{unreadable, opens}
use Rattle.lines.specs.Told.{opening_of}
use Rattle.session.proofs.Lining.{replied, same_call}
use Rattle.session.proofs.play_opening.play_opening.Goals as goal

pub returns-in-None : goal.returns-in-None
returns-in-None c = same_call _ _ unreadable _ _ c.in-None.ensures.call (λ s shows. (shows, refl))

pub returns-in-Some : goal.returns-in-Some
returns-in-Some c =
    let x = opens (opening_of c.in-Some.plan) in
    same_call _ _ x _ _ c.in-Some.ensures.call (replied _ _ x _ _ (c.from.ensures (items_of c.in-Some.plan.numbers)) c.open.ensures)
