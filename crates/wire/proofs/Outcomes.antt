-- What an answer `Ok` says of the tests and steps it came through. Assumes nothing.
use Rattle.std.proofs.Common.{◌≡◌, Bool, true, false, cond, Some, None, Ok, Err, Result, refl}
use Rattle.wire.specs.Fields.{and_then}

module _ {X E : Type 0} where
  -- past a test that refuses
  pub ok_unless : (b : Bool) (f : E) (r : Result X E) (x : X) → cond b (Err f) r ≡ Ok x → (b ≡ false) × (r ≡ Ok x)
  ok_unless true f r x e = cc
  ok_unless false f r x e = (refl, e)

  -- past a test that accepts
  pub ok_when : (b : Bool) (f : E) (y x : X) → cond b (Ok y) (Err f) ≡ Ok x → (b ≡ true) × (y ≡ x)
  ok_when true f y x e = (refl, cc)
  ok_when false f y x e = cc

-- past a first step
pub ok_then : {X Y E : Type 0} (r : Result X E) (f : X → Result Y E) (y : Y) → and_then r f ≡ Ok y → (x : X) × (r ≡ Ok x) × (f x ≡ Ok y)
ok_then (Ok x) f y e = (x, refl, e)
ok_then (Err d) f y e = cc

-- what is there under a test
module _ {X : Type 0} where
  pub not_held : (b : Bool) (x : X) → cond b (Some x) None ≡ None → b ≡ false
  not_held true x e = cc
  not_held false x e = refl
