use Rattle.std.proofs.Common.{rules, drop, refl}
use Rattle.std.proofs.lemmas.List.{take_rest}
use Rattle.lines.specs.Calls.{unreadable, starts_board, carries, forges}
use Rattle.lines.specs.Lines.{opening_in}
use Rattle.group.specs.Calls.{starting, carrying, forging}
use Rattle.session.proofs.Lining.{replied, line_plays}
use Rattle.session.proofs.played.play.Goals as goal

pub returns-in-None : goal.returns-in-None
returns-in-None c = line_plays _ _ c.args.line.now unreadable _ c.in-None.ensures.call (λ s shows. (shows, refl))

pub returns-in-Some-Open : goal.returns-in-Some-Open
returns-in-Some-Open c = line_plays _ _ c.args.line.now (opening_in c.args.line.now) _ (search rules) c.play_opening.ensures

pub returns-in-Some-Start : goal.returns-in-Some-Start
returns-in-Some-Start c =
    let x = starts_board c.in-Some-Start.board in
    line_plays _ _ c.args.line.now x _ (search rules) (replied _ _ x _ _ refl (c.on.ensures (starting c.in-Some-Start.board) (λ g h r e. search rules)))

pub returns-in-Some-Carry : goal.returns-in-Some-Carry
returns-in-Some-Carry c =
    let x = carries c.in-Some-Carry.to c.in-Some-Carry.from c.in-Some-Carry.kind c.in-Some-Carry.value in
    line_plays _ _ c.args.line.now x _ (search rules) (replied _ _ x _ _ refl
    (c.on-in-Some-Carry.ensures (carrying c.in-Some-Carry.to c.in-Some-Carry.from c.in-Some-Carry.kind c.in-Some-Carry.value) (λ g h r e. search rules)))

pub returns-in-Some-Forge : goal.returns-in-Some-Forge
returns-in-Some-Forge c =
    let line = c.args.line.now in
    let place = c.in-Some-Forge.place in
    let x = forges c.in-Some-Forge.to c.in-Some-Forge.from (drop place line) in
    line_plays _ _ line x _ (search rules) (replied _ _ x _ _ refl
    (c.on-in-Some-Forge.ensures (forging c.in-Some-Forge.to c.in-Some-Forge.from (drop place line)) (λ g h r e. search (rules, take_rest))))
