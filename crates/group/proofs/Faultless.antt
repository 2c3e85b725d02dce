-- What it says that nothing stands against a call. Assumes nothing.
use Rattle.std.proofs.Common.{◌≡◌, ℕ, ◌<◌, true, false, not, ◌&&◌, ◌||◌, ltb, List, Some, None, Option, refl}
use Rattle.std.proofs.lemmas.Bool.{and_parts, or_parts, not-true, ltb-true}
use Rattle.quorum.specs.Rules.{Rule}
use Rattle.quorum.specs.Truth.{clash}
use Rattle.vote.specs.Search.{given}
use Rattle.agreement.specs.Runs.{Event, start_of, posted}
use Rattle.board.proofs.Good.{none_failed}
use Rattle.group.specs.declared.terms.Terms.{Terms}
use Rattle.group.specs.Calls.{start_fault, carry_fault, forge_fault}
use Rattle.group.specs.Promises.{Honest}
use Rattle.group.specs.Terms.{method_in, lies}

pub none_given : {A : Type 0} (o : Option A) → given o ≡ false → o ≡ None
none_given None h = refl
none_given (Some a) h = clash refl h

module _ (R : Rule) (T : Terms) (r : List Event) where
  pub record MayStart (i : ℕ) : Type 0 where
    pub honest : Honest R T i
    pub idle : start_of r i ≡ None

  pub may_start : (i : ℕ) → given (start_fault R T r i) ≡ false → MayStart i
  unfolding start_fault
  may_start i e =
      let inside = none_failed (ltb i R.crew) _ _ (none_given _ e) in
      let steady = none_failed (not (lies R T i)) _ _ inside.1 in
      let idle = none_failed (not (given (start_of r i))) _ _ steady.1 in
      record { honest = (ltb-true _ _ inside.0, not-true _ steady.0); idle = none_given _ (not-true _ idle.0) }

  pub record MayCarry (to from c v : ℕ) : Type 0 where
    pub taker : Honest R T to
    pub sender : Honest R T from
    pub begun : given (start_of r to) ≡ true
    pub word_posted : posted (method_in R T) r from c v ≡ true

  pub may_carry : (to from c v : ℕ) → given (carry_fault R T r to from c v) ≡ false → MayCarry to from c v
  unfolding carry_fault
  may_carry to from c v e =
      let inside = none_failed (ltb to R.crew && ltb from R.crew) _ _ (none_given _ e) in
      let steady = none_failed (not (lies R T to || lies R T from)) _ _ inside.1 in
      let begun = none_failed (given (start_of r to) && given (start_of r from)) _ _ steady.1 in
      let sent = none_failed (posted (method_in R T) r from c v) _ _ begun.1 in
      let both = and_parts (ltb to R.crew) _ inside.0 in
      let neither = or_parts (lies R T to) _ (not-true _ steady.0) in
      let on = and_parts (given (start_of r to)) _ begun.0 in
      record {
        taker = (ltb-true _ _ both.0, neither.0);
        sender = (ltb-true _ _ both.1, neither.1);
        begun = on.0;
        word_posted = sent.0;
      }

  pub record MayForge (to from : ℕ) : Type 0 where
    pub taker : Honest R T to
    pub inside : from < R.crew
    pub begun : given (start_of r to) ≡ true
    pub liar : lies R T from ≡ true

  pub may_forge : (to from : ℕ) → given (forge_fault R T r to from) ≡ false → MayForge to from
  unfolding forge_fault
  may_forge to from e =
      let inside = none_failed (ltb to R.crew && ltb from R.crew) _ _ (none_given _ e) in
      let steady = none_failed (not (lies R T to)) _ _ inside.1 in
      let begun = none_failed (given (start_of r to)) _ _ steady.1 in
      let liar = none_failed (lies R T from) _ _ begun.1 in
      let both = and_parts (ltb to R.crew) _ inside.0 in
      record { taker = (ltb-true _ _ both.0, not-true _ steady.0); inside = ltb-true _ _ both.1; begun = begun.0; liar = liar.0 }
