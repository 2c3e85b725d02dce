-- Runs that are written out, and what it is for one of them to happen. Assumes nothing.
use Rattle.std.specs.Prelude.{◌≡◌, ℕ, Bool, false, not, ◌&&◌, ◌||◌, List, [], ◌∷◌, reverse, Some, ◌==◌}
use Rattle.quorum.specs.Sets.{member}
use Rattle.vote.specs.declared.Decision.{Decision}
use Rattle.vote.specs.declared.Method.{Method}
use Rattle.vote.specs.declared.Vote.{Vote}
use Rattle.vote.specs.Setting.{Setting}
use Rattle.agreement.specs.Methods.{method_of}
use Rattle.agreement.specs.Runs.{Event, starts, counts, decision, Crew, Legal}

-- board j counts the vote of kind c and value v of board i
abbrev pub hears : ℕ → ℕ → ℕ → ℕ → Event
hears j i c v = counts j record { sender = i; kind = c; value = v }

-- a setting, a method, the set listed bad, a run with its oldest event first, whether a listed board tells two boards different things in it, and what board 0 decides
pub record Play : Type 0 where
  pub setting : Setting
  pub method : Method
  pub listed : ℕ
  pub events : List Event
  pub lied : Bool
  pub decides : Decision

-- of one sender in the set and one kind, the board j counts w and the event has another board count another value
abbrev pub told_another : ℕ → ℕ → Vote → Event → Bool
told_another s j w (starts i c) = false
told_another s j w (counts i u) =
    member w.sender s && (u.sender == w.sender && (u.kind == w.kind && (not (i == j) && not (u.value == w.value))))

abbrev pub some_event : (Event → Bool) → List Event → Bool
some_event p [] = false
some_event p (e ∷ r) = p e || some_event p r

abbrev pub two_faced : ℕ → List Event → Event → Bool
two_faced s r (starts i c) = false
two_faced s r (counts j w) = some_event (told_another s j w) r

-- there is such a crew, the run is legal there, it has a lie or has none, and board 0 decides as told
abbrev pub Happens : Play → Type 0
Happens p =
    (C : Crew p.setting) × (C.listed ≡ p.listed) × Legal (method_of p.method p.setting) C (reverse p.events)
    × (some_event (two_faced p.listed p.events) p.events ≡ p.lied) × (decision (method_of p.method p.setting) (reverse p.events) 0 ≡ Some p.decides)

abbrev pub AllHappen : List Play → Type 0
AllHappen [] = Unit {0}
AllHappen (p ∷ ps) = Happens p × AllHappen ps
