-- Pairs of decisions that are at most one step apart. Assumes nothing.
use Rattle.std.proofs.Common.{◌≡◌, ◌⊎◌, sym, ◌∙◌, inl, inr}
use Rattle.vote.specs.declared.Decision.{Decision}
use Rattle.agreement.specs.Decisions.{NoneDecided, AtMostOneStep}

pub same_decision : (d e : Decision) → d.value ≡ e.value → d.grade ≡ e.grade → d ≡ e
same_decision d e p q = λ i. record { value = p i; grade = q i }

pub both_none : (d e : Decision) → NoneDecided d → NoneDecided e → AtMostOneStep d e
both_none d e n m = inl (same_decision d e (n.0 ∙ sym m.0) (n.1 ∙ sym m.1))

-- with one character, the grades are 1 or 2
pub one_character : (d e : Decision) → d.value ≡ e.value → (d.grade ≡ 1) ⊎ (d.grade ≡ 2) → (e.grade ≡ 1) ⊎ (e.grade ≡ 2) → AtMostOneStep d e
one_character d e v (inl p) (inl q) = inl (same_decision d e v (p ∙ sym q))
one_character d e v (inl p) (inr q) = inr (inl (inr (v, p, q)))
one_character d e v (inr p) (inl q) = inr (inr (inr (sym v, q, p)))
one_character d e v (inr p) (inr q) = inl (same_decision d e v (p ∙ sym q))
