-- From what the group promises of a call to what the session answers. Assumes nothing.
use Rattle.std.proofs.Common.{◌≡◌, ℕ, List, ◌∷◌, Some, Ok, Err, Option, Result, sym, ap, ◌∙◌, subst}
use Rattle.quorum.specs.declared.either.EitherRule.{EitherRule}
use Rattle.quorum.specs.Meaning.{either_rule}
use Rattle.quorum.specs.Rules.{Rule}
use Rattle.vote.specs.declared.Decision.{Decision}
use Rattle.lines.specs.Calls.{Opening}
use Rattle.group.specs.declared.fault.GroupFault.{GroupFault}
use Rattle.group.specs.declared.group.Group.{Group}
use Rattle.group.specs.declared.terms.Terms.{Terms}
use Rattle.group.specs.Calls.{Yield, Call}
use Rattle.group.specs.Opening.{Settles}
use Rattle.group.specs.Promises.{Reached, Plays, PlaysAfter, TellsDecided, decided_after}
use Rattle.session.specs.declared.fault.SessionFault.TheVariants.{Group as OfGroup}
use Rattle.session.specs.Opening.{rule_of}
use Rattle.session.specs.Replies.{group_says}
use Rattle.session.specs.Shown.{asked_of, ShowsOpen, Calls, PlaysOn}
use Rattle.session.specs.Standing.{nothing_open, stands_open}
use Rattle.session.specs.declared.fault.SessionFault.{SessionFault}
use Rattle.session.specs.declared.reply.Played.{Played}

module _ (g h : Group EitherRule) (x : Call) (i : ℕ) (same : (h.rule ≡ g.rule) × (h.terms ≡ g.terms)) where
  plays_at : (r : Result Yield GroupFault) → Plays (either_rule g.rule) g.terms x g.records h.records r
      → (o : Opening) (xs : List Call) → ShowsOpen g o xs → PlaysAfter (rule_of o) g.terms x g.records h.records r xs
  unfolding Plays
  plays_at r plays o xs s = subst (λ (R : Rule). Plays R g.terms x g.records h.records r) s.rule plays xs s.reached

  shows_on : (r : Result Yield GroupFault) → Plays (either_rule g.rule) g.terms x g.records h.records r
      → (o : Opening) (xs : List Call) → ShowsOpen g o xs → ShowsOpen h o (x ∷ xs)
  shows_on r plays o xs s = record {
    rule = ap either_rule same.0 ∙ s.rule;
    settles = subst (Settles (rule_of o) (asked_of o)) (sym same.1) s.settles;
    reached = subst (λ (T : Terms). Reached (rule_of o) T h.records (x ∷ xs)) (sym same.1) (plays_at r plays o xs s).reached;
  }

  pub refuses : (e : GroupFault) → Plays (either_rule g.rule) g.terms x g.records h.records (Err e) → Calls g x i h (Err (OfGroup e))
  refuses e plays o xs s = (shows_on (Err e) plays o xs s, ap (group_says (rule_of o) g.terms x xs i) (plays_at (Err e) plays o xs s).answers)

  pub accepts : (t : Yield) (d : Option Decision) → Plays (either_rule g.rule) g.terms x g.records h.records (Ok t)
      → TellsDecided (either_rule h.rule) h.terms h.records i d
      → Calls g x i h (Ok (record { words = t.turn.words; decision = d }))
  accepts t d plays tells o xs s =
      let shown = shows_on (Ok t) plays o xs s in
      let says = (plays_at (Ok t) plays o xs s).answers in
      let told : TellsDecided (rule_of o) h.terms h.records i d = subst (λ (R : Rule). TellsDecided R h.terms h.records i d) shown.rule tells in
      let decided : d ≡ decided_after (rule_of o) g.terms (x ∷ xs) i =
      (told (x ∷ xs) shown.reached).0 ∙ ap (λ (T : Terms). decided_after (rule_of o) T (x ∷ xs) i) same.1 in (
        shown,
        ap (λ (k : Option Decision). Ok (record { words = t.turn.words; decision = k })) decided ∙ ap (group_says (rule_of o) g.terms x xs i) says,
      )

-- ---- the group that is open
on_open : (b h : Group EitherRule) (x : Call) (i : ℕ) (r : Result Played SessionFault) → Calls b x i h r → PlaysOn (Some b) x i (Some h) r
on_open b h x i r calls nothing_open s = absurd s
on_open b h x i r calls (stands_open o xs) s = calls o xs s

pub plays_on : (g : Option (Group EitherRule)) (b h : Group EitherRule) (x : Call) (i : ℕ) (r : Result Played SessionFault)
    → g ≡ Some b → Calls b x i h r → PlaysOn g x i (Some h) r
plays_on g b h x i r there calls = rw there (on_open b h x i r calls)
