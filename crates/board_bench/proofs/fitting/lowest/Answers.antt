-- The settings tell under the other rule what they would tell under the one asked for, as far as it is lower. Assumes nothing.
use Rattle.std.proofs.Common.{◌≡◌, ℕ, cond, ltb, Some, None, Option, sym, ap, ◌∙◌, ap₂, arith}
use Rattle.std.proofs.lemmas.Bool.Decides.{nat_tests}
use Rattle.refusal.specs.declared.Refusal.{Refusal}
use Rattle.board_bench.proofs.Lowest.{lowest_told}
use Rattle.board_bench.proofs.fitting.lowest.Goals as goal

pub returns-in-None : goal.returns-in-None
returns-in-None c = λ stands. let a = c.args.asked.now in
    lowest_told a.crew a.cover a.f a.settings c.args.fault stands _ c.in-Ok.ensures.1 None (sym c.in-None.is ∙ c.settings_fault.ensures)
    ∙ ap {B = Option ℕ} Some (sym c.number-in-None.ensures.value)

pub returns-in-Some : goal.returns-in-Some
returns-in-Some c = λ stands. let a = c.args.asked.now in
    let m : c.min.result ≡ cond (ltb c.from.result.number c.number-in-Some.result) c.from.result.number c.number-in-Some.result = grind (arith, nat_tests) in
    lowest_told a.crew a.cover a.f a.settings c.args.fault stands _ c.in-Ok.ensures.1 (Some c.in-Some.other) (sym c.in-Some.is ∙ c.settings_fault.ensures)
    ∙ ap {B = Option ℕ} Some (sym (m ∙ ap₂ (λ n m. cond (ltb n m) n m) (ap (λ (r : Refusal). r.number) c.from.ensures) c.number-in-Some.ensures.value))
