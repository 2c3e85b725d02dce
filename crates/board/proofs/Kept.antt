-- What a started board keeps to, from what its method's board does. Assumes nothing.
use Rattle.std.proofs.Common.{◌≡◌, ℕ, true, eqb, List, [], ◌∷◌, Some, None, Option, sym, ◌∙◌}
use Rattle.std.proofs.lemmas.Bool.{and_parts, cond-false, cond_both, eqb-true, ne_eqb}
use Rattle.quorum.specs.Rules.{Lawful}
use Rattle.vote.specs.declared.Method.{Method}
use Rattle.vote.specs.declared.Method.TheVariants.{Plain, Echo}
use Rattle.vote.specs.declared.Vote.{Vote}
use Rattle.vote.specs.Search.{is}
use Rattle.vote.specs.Setting.{Setting}
use Rattle.agreement.specs.Plain.{branch_posted, posts}
use Rattle.heard.specs.Repeats.{repeats}
use Rattle.plain_board.specs.Step.{taken}
use Rattle.plain_board.proofs.Kept.{marks_hold}
use Rattle.echo_board.proofs.Facts.{echo_facts}
use Rattle.board.specs.Shown.{method_of}
use Rattle.board.specs.Laws.{MethodFacts}

is_once : (o : Option ℕ) (u v : ℕ) → is u o ≡ true → is v o ≡ true → u ≡ v
is_once None u v a b = absurd (cc)
is_once (Some x) u v a b = eqb-true u x a ∙ sym (eqb-true v x b)

plain_once : (S : Setting) (s : ℕ) (h : List Vote) (c u v : ℕ) → (c ≡ 1 → ⊥) → posts S s h c u ≡ true → posts S s h c v ≡ true → u ≡ v
unfolding posts
plain_once S s h c u v ne a b =
    let other = ne_eqb c 1 ne in
    let pa = and_parts (eqb c 2) (is u (branch_posted S S.depth h)) (sym (cond-false (eqb c 1) (eqb u s) _ other) ∙ a) in
    let pb = and_parts (eqb c 2) (is v (branch_posted S S.depth h)) (sym (cond-false (eqb c 1) (eqb v s) _ other) ∙ b) in
    is_once (branch_posted S S.depth h) u v pa.1 pb.1

pub method_facts : (m : Method) (S : Setting) (s : ℕ) → Lawful S.rule → MethodFacts m S s
unfolding taken
method_facts Plain S s lawful =
    let t = marks_hold S in
    record { decision_stays = t.decision_stays; word_stays = t.posted_stays s; one_word_of_a_kind = plain_once S s }
method_facts Echo S s lawful =
    let t = echo_facts S lawful in
    record {
      decision_stays = λ h w d e. cond_both (repeats h w) h (w ∷ h) (λ k. (method_of Echo S).decided k ≡ Some d) (λ _. e) (λ _. t.decision_stays (w ∷ []) h d e);
      word_stays = λ h w c v e. cond_both (repeats h w) h (w ∷ h) (λ k. (method_of Echo S).posts s k c v ≡ true) (λ _. e) (λ _. t.word_stays s (w ∷ []) h c v e);
      one_word_of_a_kind = λ h c u v ne a b. t.one_word_of_a_kind s [] h c u v ne a b;
    }
