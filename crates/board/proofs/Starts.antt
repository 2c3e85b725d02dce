-- What a board posts as it starts, by its method. Assumes nothing.
use Rattle.std.proofs.Common.{◌≡◌, ℕ, ◌*◌, ◌%◌, ◌^◌, ◌≤◌, [], ◌∷◌, Some, sym, refl, ap, ap₂, ◌∙◌, arith}
use Rattle.std.proofs.lemmas.Nat.{one_shl}
use Rattle.quorum.specs.Sets.{set_of}
use Rattle.vote.specs.declared.Depth.{Depth}
use Rattle.vote.specs.declared.Depth.TheVariants.{One, Two}
use Rattle.vote.specs.declared.Method.{Method}
use Rattle.vote.specs.declared.Method.TheVariants.{Plain, Echo}
use Rattle.vote.specs.History.{memo}
use Rattle.vote.specs.Search.{is}
use Rattle.vote.specs.Setting.{Setting}
use Rattle.agreement.specs.Plain as plainly
use Rattle.agreement.specs.Plain.{branch, branch_posted, posts}
use Rattle.vote.specs.News.{values, one_word, first_news}
use Rattle.echo_board.proofs.Starts.{value_held, start_news}
use Rattle.board.specs.Shown.{method_of}

no_branch : (S : Setting) (d : Depth) → 0 ≡ values (λ v. is v (branch_posted S d []))
unfolding branch memo set_of
no_branch S One = refl
no_branch S Two = refl

shifted : (s : ℕ) → s ≤ 8 → 2 ^ s ≡ (1 * 2 ^ s) % 65536
shifted s h = sym (one_shl s 16 (omega arith))

plain_news : (S : Setting) (s : ℕ) → s ≤ 8 → one_word 1 s ≡ first_news (plainly.plain S) s
unfolding first_news posts set_of
plain_news S s h = ap₂ (λ a b. record { kinds = a ∷ b ∷ 0 ∷ 0 ∷ 0 ∷ [] }) (shifted s h ∙ value_held (Some s) s refl h) (no_branch S S.depth)

-- an echo or a word of kind 1 that bears the starting character
pub started_news : (m : Method) (S : Setting) (s : ℕ) → s ≤ 8 → one_word 1 s ≡ first_news (method_of m S) s
started_news Plain S s h = plain_news S s h
started_news Echo S s h = ap (λ a. record { kinds = a ∷ 0 ∷ 0 ∷ 0 ∷ 0 ∷ [] }) (shifted s h) ∙ start_news S s h
