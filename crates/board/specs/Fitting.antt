-- What stands against fitting a board, by rising number. Assumes nothing.
use Rattle.std.specs.Prelude.{◌≡◌, ℕ, Bool, false, cond, not, ◌&&◌, List, [], ◌∷◌, Some, None, Option, Result, MatchResult, nat_lt}
use Rattle.quorum.specs.Rules.{Rule}
use Rattle.vote.specs.declared.Method.{Method}
use Rattle.vote.specs.declared.Method.TheVariants.{Plain, Echo}
use Rattle.wire.specs.Fields.{is_within}
use Rattle.board.specs.declared.fault.BoardFault.{BoardFault}
use Rattle.board.specs.declared.fault.BoardFault.TheVariants.{Crew, Characters, Depth, Cover, EchoCover, Board, Address, Start}
use Rattle.board.specs.declared.settings.Settings.{Settings}

-- the fault of the first test that fails
abbrev pub first_failed : {A : Type 0} → List (Bool × A) → Option A
first_failed [] = None
first_failed (t ∷ ts) = cond t.0 (first_failed ts) (Some t.1)

abbrev pub echo_under_two : Method → ℕ → Bool
echo_under_two Plain c = false
echo_under_two Echo c = nat_lt c 3

unfoldable pub settings_fault : Rule → Settings → Option BoardFault
settings_fault R s = first_failed (
    (is_within 1 16 R.crew, Crew)
    ∷ (is_within 1 8 s.characters, Characters)
    ∷ (is_within 1 2 s.depth, Depth)
    ∷ (is_within 2 3 R.cover, Cover)
    ∷ (not (echo_under_two s.method R.cover), EchoCover)
    ∷ (nat_lt s.board R.crew, Board)
    ∷ (is_within 1 65535 s.group && is_within 1 65535 s.change, Address)
    ∷ (is_within 1 s.characters s.start, Start)
    ∷ [])

-- of those, the two of the rule alone, which each frame is tested with too
abbrev pub crew_fault : Rule → Option BoardFault
crew_fault R = cond (is_within 1 16 R.crew) None (Some Crew)

abbrev pub cover_fault : Rule → Option BoardFault
cover_fault R = cond (is_within 2 3 R.cover) None (Some Cover)

-- the tests of a vote: what a board is fitted with and what a group is opened with
abbrev pub vote_tests : Rule → Method → ℕ → ℕ → List (Bool × BoardFault)
vote_tests R m d k =
    (is_within 1 16 R.crew, Crew)
    ∷ (is_within 1 8 k, Characters)
    ∷ (is_within 1 2 d, Depth)
    ∷ (is_within 2 3 R.cover, Cover)
    ∷ (not (echo_under_two m R.cover), EchoCover)
    ∷ []

abbrev pub vote_fault : Rule → Method → ℕ → ℕ → Option BoardFault
vote_fault R m d k = first_failed (vote_tests R m d k)

-- and the test of an address
abbrev pub address_fault : ℕ → ℕ → Option BoardFault
address_fault g c = cond (is_within 1 65535 g && is_within 1 65535 c) None (Some Address)

-- What a check answers: just where nothing stands against what is asked, a value of which Q holds; else what stands against it.
abbrev pub Judged : {X E : Type 0} → Option E → (X → Type 0) → Result X E → Type 0
Judged fault Q r = MatchResult r (λ x. (fault ≡ None) × Q x) (λ e. fault ≡ Some e)
