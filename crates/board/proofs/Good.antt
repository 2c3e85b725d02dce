-- Where no test fails, each passes. Assumes nothing.
use Rattle.std.proofs.Common.{◌≡◌, Bool, true, false, cond, Some, None, Option, refl}

pub none_failed : {A : Type 0} (b : Bool) (x : Option A) (f : A) → cond b x (Some f) ≡ None → (b ≡ true) × (x ≡ None)
none_failed true x f e = (refl, e)
none_failed false x f e = absurd (cc)
