use Rattle.fixed.specs.Items.{items_of}
use Rattle.session.proofs.Lining.{ended_plays}
use Rattle.session.proofs.session.Session.play_ended.Goals as goal

pub returns-clause-plays : goal.returns-clause-plays
returns-clause-plays c = ended_plays _ _ (items_of c.args.begun.now.bytes) c.args.end.now _ _ c.ended.ensures c.play-reply.ensures.plays
