-- A record that shows a history shows it with one vote more, once what the tests find is remembered. Assumes nothing.
use Rattle.std.proofs.Common.{◌≡◌, ℕ, ◌<◌, ◌≤◌, Bool, true, false, cond, ◌||◌, eqb, List, ◌∷◌, Some, None, Option, MatchOption, sym, refl, ap, ◌∙◌}
use Rattle.quorum.specs.Rules.{Rule, Lawful}
use Rattle.vote.specs.declared.Decision.{Decision}
use Rattle.vote.specs.declared.Depth.{Depth}
use Rattle.vote.specs.declared.Depth.TheVariants.{One, Two}
use Rattle.vote.specs.declared.Vote.{Vote}
use Rattle.vote.specs.History.{Seen, seen}
use Rattle.vote.specs.Search.{or_else}
use Rattle.vote.specs.Setting.{Setting}
use Rattle.vote.proofs.Options.{else_none}
use Rattle.agreement.specs.Echo.{second, found, verdict, said, decided, posts, echo}
use Rattle.vote.specs.News.{values, news_of}
use Rattle.heard.specs.Due.{approves, echo_due, third_due, outcome_due, fifth_due}
use Rattle.heard.specs.Shown.{heard_of, setting}
use Rattle.echo_board.specs.declared.board.EchoRecord.{EchoRecord}
use Rattle.echo_board.specs.declared.findings.Findings.{Findings}
use Rattle.echo_board.specs.Records.{held_of, record_of}
use Rattle.echo_board.proofs.Due.{due, due_kept, due_new}
use Rattle.echo_board.proofs.Unmoved.{remembered, second_found, third_found, fourth_found, fifth_found, decision_found}
use Rattle.echo_board.specs.Steps.{at_two, decides_by, decision_due, completing, remembering, fresh, news_in}

-- ---- what the record holds of the tests, and otherwise what those find that are due, at either depth
pub else_made : {A P : Type 0} (s : Option A) {r : Option A} (b : Bool) {d : Bool} (t : Option A) → MatchOption s (cond b P (r ≡ None)) (λ y. r ≡ Some y) → (P → r ≡ t) → b ≡ d → r ≡ or_else s (cond d t None)
else_made None true t m f e = f m ∙ ap (λ (d : Bool). cond d t None) e
else_made None false t m f e = m ∙ ap (λ (d : Bool). cond d t None) e
else_made (Some y) b t m f e = m

findings_ext : {a a' : ℕ} {b b' c c' d d' e e' : Option ℕ} {f f' : Option Decision} → a ≡ a' → b ≡ b' → c ≡ c' → d ≡ d' → e ≡ e' → f ≡ f'
    → ◌≡◌ {A = Findings} record { echoes = a; second = b; third = c; fourth = d; fifth = e; decision = f } record { echoes = a'; second = b'; third = c'; fourth = d'; fifth = e'; decision = f' }
findings_ext p q r s t u = rw (p, q, r, s, t, u)

-- at depth 1 there is no word of kind 4 or 5
none_at_one : (d : Depth) (o a : Option ℕ) → d ≡ One → o ≡ or_else o (at_two d a)
none_at_one d o a q = rw q (else_none o)

made_at_two : (d : Depth) (o a : Option ℕ) → d ≡ Two → or_else o a ≡ or_else o (at_two d a)
made_at_two d o a q = rw q refl

module _ (R : Rule) (k : ℕ) (x : Seen) (o : Findings) (d : Depth) (w : Vote) where
  abbrev A : Bool
  A = approves (setting R k d) w x

  -- what is due of the decision, by what the depth z makes of it
  abbrev Decides : Depth → Option Decision
  Decides z = or_else o.decision (cond (A || decides_by z w.kind) (decision_due (setting R k d) z w x) None)

  pub found_one : {a : ℕ} {b c : Option ℕ} {v : Option Decision} → d ≡ One → a ≡ cond (eqb w.kind 1) (values (echo_due (setting R k d) w o.echoes x)) 0 → b ≡ or_else o.second (cond A (second (setting R k d) x) None)
      → c ≡ or_else o.third (cond (A || eqb w.kind 2) (third_due (setting R k d) w x) None) → v ≡ Decides One
      → ◌≡◌ {A = Findings} record { echoes = a; second = b; third = c; fourth = o.fourth; fifth = o.fifth; decision = v } (completing (setting R k d) w x o)
  found_one q p1 p2 p3 p4 = findings_ext p1 p2 p3 (none_at_one d o.fourth _ q) (none_at_one d o.fifth _ q) (p4 ∙ ap Decides (sym q))

  pub found_two : {a : ℕ} {b c e f : Option ℕ} {v : Option Decision} → d ≡ Two → a ≡ cond (eqb w.kind 1) (values (echo_due (setting R k d) w o.echoes x)) 0 → b ≡ or_else o.second (cond A (second (setting R k d) x) None)
      → c ≡ or_else o.third (cond (A || eqb w.kind 2) (third_due (setting R k d) w x) None) → e ≡ or_else o.fourth (cond (A || eqb w.kind 3) (outcome_due (setting R k d) w x) None)
      → f ≡ or_else o.fifth (cond (A || eqb w.kind 4) (fifth_due (setting R k d) w x) None) → v ≡ Decides Two
      → ◌≡◌ {A = Findings} record { echoes = a; second = b; third = c; fourth = e; fifth = f; decision = v } (completing (setting R k d) w x o)
  found_two q p1 p2 p3 p4 p5 p6 = findings_ext p1 p2 p3 (p4 ∙ made_at_two d o.fourth _ q) (p5 ∙ made_at_two d o.fifth _ q) (p6 ∙ ap Decides (sym q))

-- ---- the step: what is remembered of the tests is what a history with w remembers
module _ (S : Setting) (lawful : Lawful S.rule) (covers : 1 ≤ S.rule.cover) (s : ℕ) (h : List Vote) (w : Vote) (within : w.sender < S.rule.crew) (low : w.value ≤ S.characters) (few : S.characters ≤ 8) where
  module _ (o f : Findings) (p : o ≡ held_of S s h) (q : f ≡ completing S w (seen (w ∷ h)) o) where
    second_kept : or_else o.second f.second ≡ said S (w ∷ h) 2
    unfolding said
    second_kept = rw (q, p) (remembered h w (found S S.depth 2) _ (second_found S lawful covers h w low S.depth))

    third_kept : or_else o.third f.third ≡ said S (w ∷ h) 3
    unfolding said
    third_kept = rw (q, p) (remembered h w (found S S.depth 3) _ (third_found S lawful covers h w low S.depth))

    fourth_kept : or_else o.fourth f.fourth ≡ said S (w ∷ h) 4
    unfolding said
    fourth_kept = rw (q, p) (remembered h w (found S S.depth 4) _ (fourth_found S lawful covers h w low S.depth))

    fifth_kept : or_else o.fifth f.fifth ≡ said S (w ∷ h) 5
    unfolding said
    fifth_kept = rw (q, p) (remembered h w (found S S.depth 5) _ (fifth_found S lawful covers h w low S.depth))

    decision_kept : or_else o.decision f.decision ≡ decided S (w ∷ h)
    unfolding decided
    decision_kept = rw (q, p) (remembered h w (verdict S S.depth) _ (decision_found S lawful covers h w low S.depth))

    echoes_made : f.echoes ≡ due S s h w
    echoes_made = rw (q, p) refl

    pub remembers : remembering o f ≡ held_of S s (w ∷ h)
    remembers = rw (echoes_made, second_kept, third_kept, fourth_kept, fifth_kept, decision_kept, p, due_kept S lawful.nobody_fails s h w within low few)

    pub tells : news_in o f ≡ news_of (echo S) s h w
    unfolding news_of fresh posts
    tells = rw (echoes_made, second_kept, third_kept, fourth_kept, fifth_kept, p, due_new S lawful.nobody_fails s h w within low few)

module _ (S : Setting) (s : ℕ) (h : List Vote) (o : EchoRecord) (e : o ≡ record_of S s h) where
  pub heard_in : o.heard ≡ heard_of S.rule.crew (seen h)
  unfolding record_of
  heard_in = ap (λ (z : EchoRecord). z.heard) e

  pub held_in : o.held ≡ held_of S s h
  unfolding record_of
  held_in = ap (λ (z : EchoRecord). z.held) e
