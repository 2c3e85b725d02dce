-- The items of a list that lies in places of a fixed number. Assumes nothing.
use Rattle.std.specs.Prelude.{ℕ, List, take}
use Rattle.fixed.specs.declared.Fixed.{Fixed}

-- the items at the front of the places, as many as are counted
abbrev pub items_of : {T : Type 0} {N : ℕ} → Fixed T N → List T
items_of f = take f.many f.places
