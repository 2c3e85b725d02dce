-- How far two decisions are apart. Assumes nothing.
use Rattle.std.specs.Prelude.{◌≡◌, ◌⊎◌}
use Rattle.vote.specs.declared.Decision.{Decision}

-- no character: (0, 0)
abbrev pub NoneDecided : Decision → Type 0
NoneDecided d = (d.value ≡ 0) × (d.grade ≡ 0)

-- one step up: from (0, 0) to any (v, 1), or from (v, 1) to (v, 2)
abbrev pub StepUp : Decision → Decision → Type 0
StepUp d e = (NoneDecided d × (e.grade ≡ 1)) ⊎ ((d.value ≡ e.value) × (d.grade ≡ 1) × (e.grade ≡ 2))

-- equal, or one step apart
abbrev pub AtMostOneStep : Decision → Decision → Type 0
AtMostOneStep d e = (d ≡ e) ⊎ (StepUp d e ⊎ StepUp e d)
