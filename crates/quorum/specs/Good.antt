-- What is known of the numbers that nothing stands against: their sizes, and that the rule of them keeps the laws. Assumes nothing.
use Rattle.std.specs.Prelude.{◌≡◌, ℕ, ◌*◌, ◌≤◌, Bool, true, false, cond, List, length, is_some, Some, None, Option, nat_le, nat_lt, refl}
use Rattle.std.proofs.lemmas.Bool.{true≢false, and_parts, leb-true, ltb-true}
use Rattle.quorum.specs.declared.fault.RuleFault.{RuleFault}
use Rattle.quorum.specs.declared.fault.RuleFault.TheVariants.{Crew, Cover, Sets, WholeCrew}
use Rattle.quorum.specs.Limits.{max_crew, max_listed, min_cover, max_cover, crew_fits, cover_fits}
use Rattle.std.specs.List.{list_all}
use Rattle.quorum.specs.Sets.{in_crew}
use Rattle.quorum.specs.Listing.{sets_fit, held, listed_rule}
use Rattle.quorum.specs.Faults.{size_fault, count_fault, listed_fault}
use Rattle.quorum.specs.Rules.{Lawful}
use Rattle.quorum.specs.Counting.{count_rule}
use Rattle.quorum.specs.Few.{count_lawful}
use Rattle.quorum.specs.Held.{listed_lawful}

-- a fault that comes first is none
first_none : (b : Bool) (o : Option RuleFault) (e : RuleFault) → is_some (cond b o (Some e)) ≡ false → (b ≡ true) × (is_some o ≡ false)
first_none true o e h = (refl, h)
first_none false o e h = absurd (true≢false h)

held_none : (b : Bool) → is_some {T = RuleFault} (cond b (Some WholeCrew) None) ≡ false → b ≡ false
held_none true h = absurd (true≢false h)
held_none false h = refl

pub record Sizes (n c : ℕ) : Type 0 where
  pub some_crew : 1 ≤ n
  pub small_crew : n ≤ max_crew
  pub some_cover : min_cover ≤ c
  pub small_cover : c ≤ max_cover

module _ (n c : ℕ) (further : Option RuleFault) (good : is_some (size_fault n c further) ≡ false) where
  pub sizes_good : Sizes n c
  sizes_good =
      let k = first_none (crew_fits n) _ Crew good in
      let j = first_none (cover_fits c) further Cover k.1 in
      let a = and_parts (nat_le 1 n) (nat_le n max_crew) k.0 in
      let b = and_parts (nat_le min_cover c) (nat_le c max_cover) j.0 in
      record { some_crew = leb-true 1 n a.0; small_crew = leb-true n max_crew a.1; some_cover = leb-true min_cover c b.0; small_cover = leb-true c max_cover b.1 }

  further_none : is_some further ≡ false
  further_none = (first_none (cover_fits c) further Cover (first_none (crew_fits n) _ Crew good).1).1

-- a count rule that nothing stands against is lawful
pub count_good : (n c f : ℕ) → is_some (count_fault n c f) ≡ false → Lawful (count_rule n c f)
count_good n c f good = count_lawful n c f (ltb-true (c * f) n (first_none (nat_lt (c * f) n) None WholeCrew (further_none n c _ good)).0)

-- a listed rule that nothing stands against is lawful
pub listed_good : (n c : ℕ) (ms : List ℕ) → is_some (listed_fault n c ms) ≡ false → Lawful (listed_rule n c ms)
listed_good n c ms good =
    let k = first_none (sets_fit n ms) _ Sets (further_none n c _ good) in
    listed_lawful n c ms (and_parts (nat_le (length ms) max_listed) (list_all (in_crew n) ms) k.0).1 (held_none (held n ms c 0) k.1)
