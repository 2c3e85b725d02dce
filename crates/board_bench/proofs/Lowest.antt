-- Where the rule asked for cannot be made, the settings tell the same lower number under another rule of the same crew. Assumes nothing.
use Rattle.std.proofs.Common.{◌≡◌, ℕ, ◌*◌, Bool, true, false, cond, not, ◌&&◌, ltb, is_some, Some, None, Option, sym, refl, ap, ◌∙◌, subst, true≢false}
use Rattle.quorum.specs.Rules.{Rule}
use Rattle.quorum.specs.Counting.{count_rule}
use Rattle.quorum.specs.Faults as rule
use Rattle.quorum.specs.Limits.{crew_fits, cover_fits}
use Rattle.quorum.specs.declared.fault.RuleFault.{RuleFault}
use Rattle.quorum.specs.declared.fault.RuleFault.TheVariants.{Crew as BadCrew, Cover as BadCover, WholeCrew}
use Rattle.wire.specs.Fields.{is_within}
use Rattle.board.specs.declared.fault.BoardFault.{BoardFault}
use Rattle.board.specs.declared.fault.BoardFault.TheVariants.{Crew, Characters, Depth, Cover, EchoCover, Board, Address, Start}
use Rattle.board.specs.declared.settings.Settings.{Settings}
use Rattle.board.specs.Faults.{refusal_of}
use Rattle.board.specs.Fitting.{settings_fault, echo_under_two}
use Rattle.board_bench.specs.Asking.{lower, rule_number, settings_number}

-- the fault of the first test that fails, by the tests' answers: crew, characters, depth, cover, echo, board, address, start
abbrev first : Bool → Bool → Bool → Bool → Bool → Bool → Bool → Bool → Option BoardFault
first n k d c e b a s =
    cond n (cond k (cond d (cond c (cond e (cond b (cond a (cond s None (Some Start)) (Some Address)) (Some Board)) (Some EchoCover)) (Some Cover)) (Some Depth)) (Some Characters)) (Some Crew)

-- past crew, characters, depth and cover no number is lower than 6
above_three : (e b a s : Bool) → lower (Some 3) (settings_number (first true true true true e b a s)) ≡ Some 3
above_three false b a s = refl
above_three true false a s = refl
above_three true true false s = refl
above_three true true true false = refl
above_three true true true true = refl

above_five : (e b a s : Bool) → lower (Some 5) (settings_number (first true true true true e b a s)) ≡ Some 5
above_five false b a s = refl
above_five true false a s = refl
above_five true true false s = refl
above_five true true true false = refl
above_five true true true true = refl

-- the cover is at fault, or as many sets as it says can hold the whole crew
under_cover : (k d e o b a s : Bool) → lower (Some 3) (settings_number (first true k d false e b a s)) ≡ lower (Some 3) (settings_number (first true k d true o b a s))
under_cover false d e o b a s = refl
under_cover true false e o b a s = refl
under_cover true true e o b a s = sym (above_three o b a s)

under_whole : (k d e o b a s : Bool) → lower (Some 5) (settings_number (first true k d true e b a s)) ≡ lower (Some 5) (settings_number (first true k d true o b a s))
under_whole false d e o b a s = refl
under_whole true false e o b a s = refl
under_whole true true e o b a s = above_five e b a s ∙ sym (above_five o b a s)

-- what holds of the number of a fault holds of the number of the same fault
by_fault : {e fault : RuleFault} → ◌≡◌ {A = Option RuleFault} (Some e) (Some fault) → (P : Option ℕ → Type 0) → P (Some (rule.number_of e)) → P (Some (rule.number_of fault))
by_fault q P h = subst P (ap rule_number q) h

-- the same for whatever stands against the rule
same_lower : (n c w k d e o b a s : Bool) (fault : RuleFault) → cond n (cond c (cond w None (Some WholeCrew)) (Some BadCover)) (Some BadCrew) ≡ Some fault
    → lower (Some (rule.number_of fault)) (settings_number (first n k d c e b a s)) ≡ lower (Some (rule.number_of fault)) (settings_number (first n k d true o b a s))
same_lower false c w k d e o b a s fault q = refl
same_lower true false w k d e o b a s fault q = by_fault q (λ m. lower m (settings_number (first true k d false e b a s)) ≡ lower m (settings_number (first true k d true o b a s))) (under_cover k d e o b a s)
same_lower true true false k d e o b a s fault q = by_fault q (λ m. lower m (settings_number (first true k d true e b a s)) ≡ lower m (settings_number (first true k d true o b a s))) (under_whole k d e o b a s)
same_lower true true true k d e o b a s fault q = absurd (true≢false (sym (ap is_some q)))

module _ (n c f : ℕ) (s : Settings) (fault : RuleFault) (stands : rule.count_fault n c f ≡ Some fault) where
  lower_told : lower (rule_number (rule.count_fault n c f)) (settings_number (settings_fault (count_rule n c f) s)) ≡ lower (Some (rule.number_of fault)) (settings_number (settings_fault (count_rule n 3 0) s))
  unfolding settings_fault
  lower_told = ap (λ (o : Option RuleFault). lower (rule_number o) (settings_number (settings_fault (count_rule n c f) s))) stands
      ∙ same_lower (crew_fits n) (cover_fits c) (ltb (c * f) n) (is_within 1 8 s.characters) (is_within 1 2 s.depth) (not (echo_under_two s.method c)) (not (echo_under_two s.method 3)) (ltb s.board n)
      (is_within 1 65535 s.group && is_within 1 65535 s.change) (is_within 1 s.characters s.start) fault stands

  -- the number that is told of a rule of the same crew
  pub lowest_told : (R : Rule) → R ≡ count_rule n 3 0 → (o : Option BoardFault) → o ≡ settings_fault R s
      → lower (rule_number (rule.count_fault n c f)) (settings_number (settings_fault (count_rule n c f) s)) ≡ lower (Some (rule.number_of fault)) (settings_number o)
  lowest_told R p o q = lower_told ∙ ap (λ (x : Option BoardFault). lower (Some (rule.number_of fault)) (settings_number x)) (ap (λ (x : Rule). settings_fault x s) (sym p) ∙ sym q)

-- ---- what stands against settings is at no byte of a frame
abbrev place_told : Option BoardFault → Option ℕ
place_told None = None
place_told (Some e) = (refusal_of e).place

placeless : (n k d c e b a s : Bool) → place_told (first n k d c e b a s) ≡ None
placeless false k d c e b a s = refl
placeless true false d c e b a s = refl
placeless true true false c e b a s = refl
placeless true true true false e b a s = refl
placeless true true true true false b a s = refl
placeless true true true true true false a s = refl
placeless true true true true true true false s = refl
placeless true true true true true true true false = refl
placeless true true true true true true true true = refl

pub no_place : (R : Rule) (s : Settings) (e : BoardFault) → settings_fault R s ≡ Some e → (refusal_of e).place ≡ None
unfolding settings_fault
no_place R s e p =
    sym (ap place_told p)
    ∙ placeless (is_within 1 16 R.crew) (is_within 1 8 s.characters) (is_within 1 2 s.depth) (is_within 2 3 R.cover) (not (echo_under_two s.method R.cover)) (ltb s.board R.crew)
    (is_within 1 65535 s.group && is_within 1 65535 s.change) (is_within 1 s.characters s.start)
