-- What agreement promises of every run. Assumes nothing.
use Rattle.std.specs.Prelude.{◌≡◌, ℕ, ◌≤◌, true, ◌≢◌, ◌⊎◌, List, ◌++◌, Some}
use Rattle.vote.specs.Search.{given}
use Rattle.vote.specs.declared.Decision.{Decision}
use Rattle.vote.specs.declared.Method.{Method}
use Rattle.vote.specs.declared.Method.TheVariants.{Echo}
use Rattle.vote.specs.History.{counted}
use Rattle.vote.specs.Setting.{Setting, Protocol, grades}
use Rattle.agreement.specs.Methods.{method_of, needed_cover}
use Rattle.agreement.specs.Runs.{Event, start_of, history, posted, decision, Crew, Steady, Honest, Legal}
use Rattle.agreement.specs.Decisions.{NoneDecided, AtMostOneStep}

-- the starting characters of a run: of the boards that have started
abbrev pub StartedWith : List Event → ℕ → ℕ → Type 0
StartedWith r i s = start_of r i ≡ Some s

-- starting characters that are settled beforehand, for every board
abbrev pub SettledAs : (ℕ → ℕ) → ℕ → ℕ → Type 0
SettledAs start i s = start i ≡ s

module _ {S : Setting} (M : Protocol) (C : Crew S) where
  -- The span of the honest starting characters, where `Starts i s` says that board i starts with s: (v, depth) alone if all are v; otherwise (0, 0), and
  -- (v, 1) up to (v, depth) for each v among them.
  pub record InSpan (Starts : ℕ → ℕ → Type 0) (d : Decision) : Type 0 where
    pub where_all_are_one : (v : ℕ) → ((i s : ℕ) → Honest M C i → Starts i s → s ≡ v) → (d.value ≡ v) × (d.grade ≡ grades S.depth)
    pub none_or_one_of_them : NoneDecided d ⊎ ((1 ≤ d.grade) × (d.grade ≤ grades S.depth) × ((i : ℕ) × Honest M C i × Starts i d.value))

  -- the boards of the run that have started did so with the settled characters
  abbrev pub KeepsTo : (ℕ → ℕ) → List Event → Type 0
  KeepsTo start r = (i s : ℕ) → Honest M C i → start_of r i ≡ Some s → start i ≡ s

  -- some honest board has decided
  abbrev pub Decided : List Event → Type 0
  Decided r = (i : ℕ) × Honest M C i × (given (decision M r i) ≡ true)

  -- some honest board has decided on the character u
  abbrev pub DecidedOn : List Event → ℕ → Type 0
  DecidedOn r u = (i : ℕ) × Honest M C i × ((d : Decision) × (decision M r i ≡ Some d) × (d.value ≡ u) × (u ≢ 0))

  -- after r, the characters that honest boards decide are one and the same, whatever comes next in either of two ways to go on
  abbrev pub Bound : List Event → List Event → List Event → Type 0
  Bound r x y = (u v : ℕ) → DecidedOn (x ++ r) u → DecidedOn (y ++ r) v → u ≡ v

  abbrev pub SteadyStarted : List Event → Type 0
  SteadyStarted r = (i : ℕ) → Steady M C i → given (start_of r i) ≡ true

  -- each word that a steady board has posted is counted at all steady boards
  abbrev pub SteadyCounted : List Event → Type 0
  SteadyCounted r = (i j c v : ℕ) → Steady M C i → Steady M C j → posted M r i c v ≡ true → counted (history r j) c v i ≡ true

  pub record Promise (r : List Event) : Type 0 where
    pub decisions_at_most_one_step_apart :
        (i j : ℕ) (d e : Decision) → Honest M C i → Honest M C j → decision M r i ≡ Some d → decision M r j ≡ Some e → AtMostOneStep d e
    pub decisions_in_the_span_of_those_started : (i : ℕ) (d : Decision) → Honest M C i → decision M r i ≡ Some d → InSpan (StartedWith r) d
    pub decisions_in_the_span : (start : ℕ → ℕ) → KeepsTo start r → (i : ℕ) (d : Decision) → Honest M C i → decision M r i ≡ Some d → InSpan (SettledAs start) d
    pub the_first_decision_binds :
        Decided r → (start : ℕ → ℕ) (x y : List Event) → Legal M C (x ++ r) → Legal M C (y ++ r) → KeepsTo start (x ++ r) → KeepsTo start (y ++ r) → Bound r x y
    pub all_counted_all_decided : SteadyStarted r → SteadyCounted r → (i : ℕ) → Steady M C i → given (decision M r i) ≡ true

  -- the same for any starting characters of the boards that start later
  abbrev pub BindsWhateverStarts : List Event → Type 0
  BindsWhateverStarts r = Decided r → (x y : List Event) → Legal M C (x ++ r) → Legal M C (y ++ r) → Bound r x y

  -- The run can go on until every steady board has started and all that steady boards have posted is counted; and if it keeps to characters that are
  -- settled beforehand, so does what follows.
  abbrev pub GoesOn : List Event → Type 0
  GoesOn r =
      (start : ℕ → ℕ) → ((i : ℕ) → (1 ≤ start i) × (start i ≤ S.characters))
      → (x : List Event) × Legal M C (x ++ r) × (KeepsTo start r → KeepsTo start (x ++ r)) × SteadyStarted (x ++ r) × SteadyCounted (x ++ r)

-- ---- the theorems
-- every method agrees, in every run of every crew whose rule has the cover that the method needs
unfoldable pub Agreement : Type 0
Agreement =
    (m : Method) (S : Setting) → needed_cover m ≤ S.rule.cover → (C : Crew S) (r : List Event) → Legal (method_of m S) C r → Promise (method_of m S) C r

-- in the echo method the first decision binds even those whose starting character is not settled yet
unfoldable pub EchoBindsWhateverStarts : Type 0
EchoBindsWhateverStarts =
    (S : Setting) → needed_cover Echo ≤ S.rule.cover → (C : Crew S) (r : List Event) → Legal (method_of Echo S) C r → BindsWhateverStarts (method_of Echo S) C r

-- no run is stuck before the premise of the last promise holds
unfoldable pub EveryRunGoesOn : Type 0
EveryRunGoesOn = (m : Method) (S : Setting) (C : Crew S) (r : List Event) → Legal (method_of m S) C r → GoesOn (method_of m S) C r
