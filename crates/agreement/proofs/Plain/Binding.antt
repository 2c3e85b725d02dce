-- Where the starting characters are settled, any two ways to go on decide one character. Assumes nothing.
use Rattle.std.proofs.Common.{◌≡◌, ℕ, ◌≤◌, List, sym, refl, ◌∙◌, subst, ⊎_elim}
use Rattle.vote.specs.Setting.{Setting}
use Rattle.agreement.specs.Plain.{plain}
use Rattle.agreement.specs.Promises.{KeepsTo, DecidedOn}
use Rattle.agreement.specs.Runs.{Event, Crew, Legal}
use Rattle.agreement.proofs.Plain.Sources.{AmpleStarts, decision_starts, starts_meet}

module _ {S : Setting} (two : 2 ≤ S.rule.cover) (C : Crew S) where
  decided_starts : (r : List Event) → Legal (plain S) C r → (u : ℕ) → DecidedOn (plain S) C r u → AmpleStarts C r u
  decided_starts r legal u k =
      let m = k.2 in
      ⊎_elim (λ n. absurd (m.3 (sym m.2 ∙ n.0))) (λ c. subst (AmpleStarts C r) m.2 c.2) (decision_starts C r legal k.0 m.0 m.1)

  pub bound : (start : ℕ → ℕ) (x y : List Event) → Legal (plain S) C x → Legal (plain S) C y → KeepsTo (plain S) C start x → KeepsTo (plain S) C start y
      → (u v : ℕ) → DecidedOn (plain S) C x u → DecidedOn (plain S) C y v → u ≡ v
  bound start x y lx ly kx ky u v a b =
      let k = starts_meet C two x y u v (decided_starts x lx u a) (decided_starts y ly v b) in
      sym (kx k.0 u (k.1, refl) k.2) ∙ ky k.0 v (k.1, refl) k.3
