-- Why a rule cannot be made: which refusal, by rising number, and what is told of it. Assumes nothing.
use Rattle.std.specs.Prelude.{◌≡◌, ℕ, ◌*◌, cond, List, Some, None, Ok, Err, Option, Result, nat_lt}
use Rattle.refusal.specs.declared.Refusal.{Refusal}
use Rattle.refusal.specs.Told.{told}
use Rattle.quorum.specs.declared.fault.RuleFault.{RuleFault}
use Rattle.quorum.specs.declared.fault.RuleFault.TheVariants.{Crew, Cover, Sets, WholeCrew}
use Rattle.quorum.specs.Limits.{crew_fits, cover_fits}
use Rattle.quorum.specs.Rules.{Rule}
use Rattle.quorum.specs.Listing.{sets_fit, held}

abbrev pub number_of : RuleFault → ℕ
number_of Crew = 1
number_of Cover = 3
number_of Sets = 4
number_of WholeCrew = 5

-- what is told: the number, no place, and no board; each of these numbers is of the layer of a board
abbrev pub refusal_of : RuleFault → Refusal
refusal_of e = told (number_of e)

-- no fault of the crew's size or the cover, or the first of them; where there is none, the further one
abbrev pub size_fault : ℕ → ℕ → Option RuleFault → Option RuleFault
size_fault n c further = cond (crew_fits n) (cond (cover_fits c) further (Some Cover)) (Some Crew)

-- what stands against a count rule: at last, that `cover` sets of f boards can hold the whole crew
abbrev pub count_fault : ℕ → ℕ → ℕ → Option RuleFault
count_fault n c f = size_fault n c (cond (nat_lt (c * f) n) None (Some WholeCrew))

-- what stands against a listed rule
abbrev pub listed_fault : ℕ → ℕ → List ℕ → Option RuleFault
listed_fault n c ms = size_fault n c (cond (sets_fit n ms) (cond (held n ms c 0) (Some WholeCrew) None) (Some Sets))

-- What a call that makes a rule answers: just where nothing stands against it, a rule with the meaning that was asked for; else what stands against it.
abbrev pub Made : {X : Type 0} → Option RuleFault → Rule → (X → Rule) → Result X RuleFault → Type 0
Made fault asked meaning_of (Ok x) = (fault ≡ None) × (meaning_of x ≡ asked)
Made fault asked meaning_of (Err e) = fault ≡ Some e
