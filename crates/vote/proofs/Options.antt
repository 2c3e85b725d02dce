-- What an option holds, and the first of two that holds something. Assumes nothing.
use Rattle.std.proofs.Common.{◌≡◌, ℕ, Bool, true, false, cond, ◌||◌, eqb, ◌⊎◌, Some, None, Option, sym, refl, ap, inl, inr, arith}
use mathlib.Core.Bool.{or-false}
use Rattle.std.proofs.lemmas.Bool.Decides.{nat_tests}
use Rattle.std.proofs.lemmas.Bool.{false≢true, eqb-true, eq-eqb, ne_eqb}
use Rattle.std.specs.Option.{option_eq}
use Rattle.quorum.specs.Truth.{clash}
use Rattle.vote.specs.Search.{or_else, when, given, is}

-- ---- what an option holds
pub given_found : {A : Type 0} (o : Option A) → given o ≡ true → (v : A) × (o ≡ Some v)
given_found None h = absurd (false≢true h)
given_found (Some x) h = (x, refl)

pub given_from : {A : Type 0} {o : Option A} {v : A} → o ≡ Some v → given o ≡ true
given_from p = ap given p

pub given_absent : {A : Type 0} (o : Option A) → given o ≡ false → o ≡ None
given_absent None h = refl
given_absent (Some x) h = clash refl h

pub is_found : (v : ℕ) (o : Option ℕ) → is v o ≡ true → o ≡ Some v
is_found v None h = absurd (false≢true h)
is_found v (Some u) h = ap {B = Option ℕ} Some (sym (eqb-true v u h))

pub is_given : (v : ℕ) (o : Option ℕ) → is v o ≡ true → given o ≡ true
is_given v None h = absurd (false≢true h)
is_given v (Some u) h = refl

pub is_from : (v : ℕ) {o : Option ℕ} → o ≡ Some v → is v o ≡ true
is_from v p = rw p (eq-eqb v v refl)

-- which of two numbers is asked of the other makes no difference
pub eqb_turned : (u v : ℕ) → eqb u v ≡ eqb v u
eqb_turned u v = grind (arith, nat_tests)

-- `o == Some(v)` asks the same
pub same_is : (v : ℕ) (o : Option ℕ) → option_eq eqb o (Some v) ≡ is v o
same_is v None = refl
same_is v (Some u) = eqb_turned u v

-- an option holds one value only
pub holds_one : {A : Type 0} {o : Option A} {a b : A} → o ≡ Some a → o ≡ Some b → a ≡ b
holds_one p q = cc

pub holds_none : {X : Type 0} {A : Type 0} {v : A} → None ≡ Some v → X
holds_none h = absurd (false≢true (ap given h))

-- ---- the first that holds something
pub else_cases : {A : Type 0} (x y : Option A) (v : A) → or_else x y ≡ Some v → (x ≡ Some v) ⊎ (y ≡ Some v)
else_cases None y v h = inr h
else_cases (Some x) y v h = inl h

pub else_left : {A : Type 0} (x y : Option A) → given x ≡ true → given (or_else x y) ≡ true
else_left None y h = absurd (false≢true h)
else_left (Some x) y h = refl

pub else_right : {A : Type 0} (x y : Option A) → given y ≡ true → given (or_else x y) ≡ true
else_right None y h = h
else_right (Some x) y h = refl

pub else_keeps : {A : Type 0} {x : Option A} (y : Option A) {v : A} → x ≡ Some v → or_else x y ≡ Some v
else_keeps y p = rw p

pub else_none : {A : Type 0} (o : Option A) → o ≡ or_else o None
else_none None = refl
else_none (Some u) = refl

pub else_given : {A : Type 0} (o p : Option A) → given o ≡ true → o ≡ or_else o p
else_given None p h = clash h refl
else_given (Some u) p h = refl

pub else_twice : {A : Type 0} (m x : Option A) → or_else (or_else m x) x ≡ or_else m x
else_twice (Some a) x = refl
else_twice None (Some b) = refl
else_twice None None = refl

pub else_absent : {A : Type 0} (x y : Option A) → or_else x y ≡ None → (x ≡ None) × (y ≡ None)
else_absent None y h = (refl, h)
else_absent (Some v) y h = holds_none (sym h)

-- ---- a value under a test
pub when_absent : {A : Type 0} (b : Bool) (x : A) → when b x ≡ None → b ≡ false
when_absent true x h = holds_none (sym h)
when_absent false x h = refl

pub when_found : {A : Type 0} (b : Bool) (x v : A) → when b x ≡ Some v → (b ≡ true) × (v ≡ x)
when_found true x v h = (refl, cc)
when_found false x v h = (cc, cc)

pub cond_found : {A : Type 0} (b : Bool) (x : Option A) (v : A) → cond b x None ≡ Some v → (b ≡ true) × (x ≡ Some v)
cond_found true x v h = (refl, h)
cond_found false x v h = holds_none h

pub when_from : {A : Type 0} (b : Bool) (x : A) → b ≡ true → given (when b x) ≡ true
when_from b x p = rw p

-- ---- what is held once the value v came under the test b, of a sender that had none where b is true
pub given_else_when : (o : Option ℕ) (b : Bool) (v : ℕ) → given (or_else o (when b v)) ≡ (given o || b)
given_else_when None true v = refl
given_else_when None false v = refl
given_else_when (Some u) b v = refl

pub is_else_same : (o : Option ℕ) (b : Bool) (v : ℕ) → (b ≡ true → given o ≡ false) → is v (or_else o (when b v)) ≡ (is v o || b)
is_else_same None true v f = eq-eqb v v refl
is_else_same None false v f = refl
is_else_same (Some u) true v f = clash refl (f refl)
is_else_same (Some u) false v f = sym (or-false (eqb v u))

-- whatever is held, another value is held as before
pub is_else_other : (o : Option ℕ) (b : Bool) (u v : ℕ) → (u ≡ v → ⊥) → is u o ≡ is u (or_else o (when b v))
is_else_other None true u v ne = sym (ne_eqb u v ne)
is_else_other None false u v ne = refl
is_else_other (Some w) b u v ne = refl
