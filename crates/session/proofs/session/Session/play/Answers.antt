use Rattle.std.proofs.Common.{◌∷◌}
use Rattle.std.proofs.Math.Logic.{∥∥₁_map}
use Rattle.session.proofs.Lining.{led_keeps}
use Rattle.session.proofs.session.Session.play.Goals as goal

pub invariant_of-self : goal.invariant_of-self
invariant_of-self c = record { led = ∥∥₁_map c.args.self.now.led (λ l. (c.args.line.now ∷ l.0, (c.play.ensures l.0 l.1).0)) }

pub returns-clause-keeps : goal.returns-clause-keeps
returns-clause-keeps c = led_keeps c.play.new.group (∥∥₁_map c.args.self.now.led (λ l. (c.args.line.now ∷ l.0, (c.play.ensures l.0 l.1).0)))
