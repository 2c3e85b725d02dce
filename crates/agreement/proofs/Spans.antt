-- A decision in the span of the boards that have started is in the span of settled starting characters that the run keeps to. Assumes nothing.
use Rattle.std.proofs.Common.{ℕ, List, inl, inr, ⊎_elim}
use Rattle.vote.specs.declared.Decision.{Decision}
use Rattle.vote.specs.Setting.{Setting, Protocol}
use Rattle.agreement.specs.Runs.{Event, Crew}
use Rattle.agreement.specs.Promises.{InSpan, StartedWith, SettledAs, KeepsTo}

module _ {S : Setting} (M : Protocol) (C : Crew S) where
  pub span_settled : (r : List Event) (start : ℕ → ℕ) (d : Decision) → KeepsTo M C start r → InSpan M C (StartedWith r) d → InSpan M C (SettledAs start) d
  span_settled r start d keeps p = record {
    where_all_are_one = λ v all. p.where_all_are_one v (λ i s hi e. all i s hi (keeps i s hi e));
    none_or_one_of_them =
        ⊎_elim (λ n. inl n) (λ k. let b = k.2 in inr (k.0, k.1, (b.0, b.1, keeps b.0 d.value b.1 b.2))) p.none_or_one_of_them;
  }
