-- The tests 1 and 2, each where its value is not echoed already. Assumes nothing.
use Rattle.std.proofs.Common.{◌≡◌, not, ◌&&◌, get_or, sym, refl}
use Rattle.quorum.specs.Sets.{member}
use Rattle.quorum.specs.Rules.{strong}
use Rattle.agreement.specs.Echo.{parted}
use Rattle.heard.specs.Due.{opens}
use Rattle.heard.specs.Shown.{setting}
use Rattle.heard.proofs.Due.{echoes_made}
use Rattle.heard.proofs.counted.Heard.echoes.Goals as goal
use Rattle.heard.proofs.counted.Heard.echoes.Goals.{then-not-has, else-not-has, then-not-has-2, else-not-has-2, then-opens, else-opens}

pub returns : goal.returns
returns g c = λ d x e.
    let R = g.R.FailureRule.meaning c.args.voting.now.rule.now in
    let w = c.args.vote in
    let own : c.if-not-has.own ≡ (not (member w.value c.args.echoed) && strong R (get_or c.args.self.now.echoes w.value 0)) = elim c.if-not-has.branch [
      | then-not-has k ↦ rw (sym c.has.ensures, k.if-not-has.true, k.own-is) k.strong-own.ensures.value
      | else-not-has k ↦ rw (sym c.has.ensures, k.own-is, k.if-not-has.false) refl
    ] in
    let opened : c.if-not-has-2.value ≡ (not (member 0 c.args.echoed) && opens R.crew w x) = elim c.if-not-has-2.branch [
      | then-not-has-2 k ↦ rw (sym c.has-2.ensures, k.if-not-has-2.true, k.value-is) (k.opens.ensures R.crew x e)
      | else-not-has-2 k ↦ rw (sym c.has-2.ensures, k.value-is, k.if-not-has-2.false) refl
    ] in
    let zero : c.if-opens.zero ≡ ((not (member 0 c.args.echoed) && opens R.crew w x) && parted (setting R c.args.voting.now.characters d) x) = elim c.if-opens.branch [
      | then-opens k ↦ rw (sym opened, k.if-opens.true, k.zero-is) (k.parted-zero.ensures d x e)
      | else-opens k ↦ rw (sym opened, k.zero-is, k.if-opens.false) refl
    ] in
    echoes_made c.args.voting.now c.args.self.now d x e w c.requires c.args.echoed own zero
