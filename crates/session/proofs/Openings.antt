-- What it says that something, or nothing, stands against the opening of a line. Assumes nothing.
use Rattle.std.proofs.Common.{◌≡◌, ℕ, ◌<◌, Bool, true, false, cond, not, ◌&&◌, List, [], length, get_or, take, Some, None, Option, sym, refl, ap, ap₂, ◌∙◌, subst}
use Rattle.std.specs.Option.{option_map}
use Rattle.std.proofs.lemmas.Bool.{cond-true}
use Rattle.std.proofs.lemmas.List.{get_or-take}
use Rattle.vote.specs.declared.Method.{Method}
use Rattle.vote.specs.declared.Method.TheVariants.{Plain, Echo}
use Rattle.vote.proofs.Options.{holds_none}
use Rattle.wire.specs.Fields.{is_within}
use Rattle.quorum.specs.declared.fault.RuleFault.{RuleFault}
use Rattle.quorum.specs.declared.fault.RuleFault.TheVariants.{Sets, WholeCrew}
use Rattle.quorum.specs.declared.either.EitherRule.{EitherRule}
use Rattle.quorum.specs.Meaning.{either_rule}
use Rattle.quorum.specs.Limits.{crew_fits, cover_fits}
use Rattle.quorum.specs.Listing.{sets_fit, held}
use Rattle.board.specs.declared.fault.BoardFault.TheVariants.{Start}
use Rattle.board.proofs.Good.{none_failed}
use Rattle.board.specs.Fitting.{echo_under_two}
use Rattle.lines.specs.Calls.{Failing, by_count, by_sets, Opening}
use Rattle.group.specs.declared.fault.GroupFault.TheVariants.{Opening as Against, Family}
use Rattle.group.specs.declared.opening.Opening as asked
use Rattle.group.specs.declared.group.Group.{Group}
use Rattle.group.specs.declared.terms.Terms.{Terms}
use Rattle.group.specs.Opening as group
use Rattle.group.specs.Promises.{Reached}
use Rattle.group.specs.Sound.{all_characters}
use Rattle.session.specs.declared.fault.SessionFault.{SessionFault}
use Rattle.session.specs.declared.fault.SessionFault.TheVariants.{Rule as OfRule, Group as OfGroup}
use Rattle.session.specs.Opening.{cover_of, failing_rule, sets_good, crew_spared, rule_of, opening_fault}
use Rattle.session.specs.Shown.{asked_of, ShowsOpen}
use Rattle.session.specs.Asked.{failing_fault, rule_fault, sizes_fault, Asks}

-- a fault that is told before more is asked
same_fault : {A : Type 0} (a b d : Bool) (x : Option A) (f g h k : A)
    → cond a (cond b (cond d None (Some h)) (Some g)) (Some f) ≡ Some k → cond a (cond b (cond d x (Some h)) (Some g)) (Some f) ≡ Some k
same_fault true true true x f g h k e = holds_none e
same_fault true true false x f g h k e = e
same_fault true false d x f g h k e = e
same_fault false b d x f g h k e = e

same_rule_fault : (a b : Bool) (x : Option SessionFault) (e : RuleFault)
    → cond a (cond b None (Some WholeCrew)) (Some Sets) ≡ Some e → cond a (cond b x (Some (OfRule WholeCrew))) (Some (OfRule Sets)) ≡ Some (OfRule e)
same_rule_fault true true x e is = holds_none is
same_rule_fault true false x e is = ap (option_map OfRule) is
same_rule_fault false b x e is = ap (option_map OfRule) is

cover_good : (m : Method) → cover_fits (cover_of m) ≡ true
cover_good Plain = refl
cover_good Echo = refl

turned : (b : Bool) → cond b (Some WholeCrew) None ≡ cond (not b) None (Some WholeCrew)
turned true = refl
turned false = refl

made_for : (F : Failing) (n c : ℕ) → crew_fits n ≡ true → cover_fits c ≡ true
    → failing_fault n c F ≡ cond (sets_good n F) (cond (crew_spared n c F) None (Some WholeCrew)) (Some Sets)
made_for (by_count f) n c p q = cond-true (crew_fits n) _ _ p ∙ cond-true (cover_fits c) _ _ q
made_for (by_sets ss) n c p q =
    cond-true (crew_fits n) _ _ p ∙ (cond-true (cover_fits c) _ _ q ∙ ap (λ (x : Option RuleFault). cond (sets_fit n ss) x (Some Sets)) (turned (held n ss c 0)))

crew_of : (F : Failing) (n c : ℕ) → (failing_rule n c F).crew ≡ n
crew_of (by_count f) n c = refl
crew_of (by_sets ss) n c = refl

covers : (F : Failing) (n c : ℕ) → (failing_rule n c F).cover ≡ c
covers (by_count f) n c = refl
covers (by_sets ss) n c = refl

pub rule_crew : (o : Opening) → (rule_of o).crew ≡ o.crew
unfolding rule_of
rule_crew o = crew_of o.failing o.crew (cover_of o.method)

rule_cover : (o : Opening) → (rule_of o).cover ≡ cover_of o.method
unfolding rule_of
rule_cover o = covers o.failing o.crew (cover_of o.method)

cover_within : (m : Method) → is_within 2 3 (cover_of m) ≡ true
cover_within Plain = refl
cover_within Echo = refl

cover_serves : (m : Method) → not (echo_under_two m (cover_of m)) ≡ true
cover_serves Plain = refl
cover_serves Echo = refl

lift_two : (t x : Bool) → cond t (cond x None (Some (OfGroup Family))) (Some (OfGroup (Against Start))) ≡ option_map OfGroup (cond t (cond x None (Some Family)) (Some (Against Start)))
lift_two true true = refl
lift_two true false = refl
lift_two false x = refl

module _ (o : Opening) where
  starts_good : Bool
  starts_good = all_characters o.characters o.starts

  bad_fail : Bool
  bad_fail = (failing_rule o.crew (cover_of o.method) o.failing).fails o.bad

  -- what is asked once the rule is made
  further : Option SessionFault
  further = cond starts_good (cond bad_fail None (Some (OfGroup Family))) (Some (OfGroup (Against Start)))

  pub sizes_some : (f : SessionFault) → sizes_fault o ≡ Some f → opening_fault o ≡ Some f
  unfolding opening_fault
  sizes_some f e = same_fault (is_within 1 16 o.crew) (is_within 1 8 o.characters) (is_within 1 2 o.depth) _ _ _ _ f e

  pub record SizesGood : Type 0 where
    pub crew : is_within 1 16 o.crew ≡ true
    pub characters : is_within 1 8 o.characters ≡ true
    pub depth : is_within 1 2 o.depth ≡ true

  module _ (none : sizes_fault o ≡ None) where
    pub sizes_good : SizesGood
    sizes_good =
        let a = none_failed (is_within 1 16 o.crew) _ _ none in
        let b = none_failed (is_within 1 8 o.characters) _ _ a.1 in
        let d = none_failed (is_within 1 2 o.depth) _ _ b.1 in
        record { crew = a.0; characters = b.0; depth = d.0 }

    -- the sizes pass, and the rule is asked
    after_sizes : opening_fault o ≡ cond (sets_good o.crew o.failing) (cond (crew_spared o.crew (cover_of o.method) o.failing) further (Some (OfRule WholeCrew))) (Some (OfRule Sets))
    unfolding opening_fault further starts_good bad_fail
    after_sizes = cond-true (is_within 1 16 o.crew) _ _ sizes_good.crew ∙ (cond-true (is_within 1 8 o.characters) _ _ sizes_good.characters ∙ cond-true (is_within 1 2 o.depth) _ _ sizes_good.depth)

    made : rule_fault o ≡ cond (sets_good o.crew o.failing) (cond (crew_spared o.crew (cover_of o.method) o.failing) None (Some WholeCrew)) (Some Sets)
    made = made_for o.failing o.crew (cover_of o.method) sizes_good.crew (cover_good o.method)

    pub rule_some : (e : RuleFault) → rule_fault o ≡ Some e → opening_fault o ≡ Some (OfRule e)
    rule_some e is =
        after_sizes ∙ same_rule_fault (sets_good o.crew o.failing) (crew_spared o.crew (cover_of o.method) o.failing) further e (sym made ∙ is)

    after_rule : rule_fault o ≡ None → opening_fault o ≡ further
    after_rule is =
        let a = none_failed (sets_good o.crew o.failing) _ _ (sym made ∙ is) in
        let b = none_failed (crew_spared o.crew (cover_of o.method) o.failing) _ _ a.1 in
        after_sizes ∙ (cond-true _ _ _ a.0 ∙ cond-true _ _ _ b.0)

    -- the group's own question, of an opening with the line's numbers
    module _ (ruled : rule_fault o ≡ None) (len : length o.starts ≡ o.crew) (a : asked.Opening) (asks : Asks o a) where
      starts_same : all_characters a.characters (take (rule_of o).crew a.starts) ≡ all_characters o.characters o.starts
      starts_same = ap₂ all_characters asks.characters (ap (λ (n : ℕ). take n a.starts) (rule_crew o ∙ sym len) ∙ asks.starts)

      in_group : group.opening_fault (rule_of o) a ≡ cond starts_good (cond bad_fail None (Some Family)) (Some (Against Start))
      unfolding group.opening_fault rule_of starts_good bad_fail
      in_group =
          let R = rule_of o in
          cond-true (is_within 1 16 R.crew) _ _ (ap (is_within 1 16) (rule_crew o) ∙ sizes_good.crew)
          ∙ (cond-true (is_within 1 8 a.characters) _ _ (ap (is_within 1 8) asks.characters ∙ sizes_good.characters)
          ∙ (cond-true (is_within 1 2 a.depth) _ _ (ap (is_within 1 2) asks.depth ∙ sizes_good.depth)
          ∙ (cond-true (is_within 2 3 R.cover) _ _ (ap (is_within 2 3) (rule_cover o) ∙ cover_within o.method)
          ∙ (cond-true (not (echo_under_two a.method R.cover)) _ _ (ap₂ (λ (m : Method) (c : ℕ). not (echo_under_two m c)) asks.method (rule_cover o) ∙ cover_serves o.method)
          ∙ (cond-true (is_within 1 65535 a.group && is_within 1 65535 a.change) _ _ (ap₂ (λ (g c : ℕ). is_within 1 65535 g && is_within 1 65535 c) asks.group asks.change)
          ∙ ap₂ (λ (t x : Bool). cond t (cond x None (Some Family)) (Some (Against Start))) starts_same (ap R.fails asks.listed))))))

      pub group_asked : opening_fault o ≡ option_map OfGroup (group.opening_fault (rule_of o) a)
      unfolding further
      group_asked = after_rule ruled ∙ (lift_two starts_good bad_fail ∙ ap (option_map OfGroup) (sym in_group))

      pub settles : (T : Terms) → group.Settles (rule_of o) a T → group.Settles (rule_of o) (asked_of o) T
      settles T s = record {
        method = s.method ∙ asks.method;
        depth = s.depth ∙ asks.depth;
        characters = s.characters ∙ asks.characters;
        group = s.group ∙ asks.group;
        change = s.change ∙ asks.change;
        listed = s.listed ∙ asks.listed;
        starts = λ i l.
            let m : i < length o.starts = subst (λ (n : ℕ). i < n) (rule_crew o ∙ sym len) l in
            s.starts i l ∙ (sym (get_or-take (length o.starts) a.starts i 0 m) ∙ ap (λ (xs : List ℕ). get_or xs i 0) asks.starts);
      }

      -- a group that is opened as the group's own opening asks is the one that the line asks for
      pub opened_shows : (g : Group EitherRule) (r : EitherRule) → either_rule r ≡ rule_of o
          → (group.opening_fault (rule_of o) a ≡ None) × (g.rule ≡ r) × group.Settles (rule_of o) a g.terms × Reached (rule_of o) g.terms g.records []
          → (opening_fault o ≡ None) × ShowsOpen g o []
      opened_shows g r means made = (
        group_asked ∙ ap (option_map OfGroup) made.0,
        record { rule = ap either_rule made.1 ∙ means; settles = settles g.terms made.2; reached = made.3 },
      )
