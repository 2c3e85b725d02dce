-- The echo method: every word and every decision of a steady board lies in the span of those that have started. Assumes nothing.
use Rattle.std.proofs.Common.{◌≡◌, ℕ, ◌≤◌, true, false, eqb, ◌≢◌, ◌⊎◌, List, Some, sym, refl, ◌∙◌, subst, inl, inr, ⊎_elim, arith}
use Rattle.vote.specs.declared.Decision.{Decision}
use Rattle.vote.specs.declared.Depth.{Depth}
use Rattle.vote.specs.declared.Depth.TheVariants.{One, Two}
use Rattle.vote.specs.declared.Vote.{Vote}
use Rattle.vote.specs.History.{seen, says}
use Rattle.vote.specs.Search.{given}
use Rattle.vote.specs.Setting.{Setting, grades}
use Rattle.vote.proofs.Options.{given_found}
use Rattle.agreement.specs.Runs.{Event, start_of, history, decision, Crew, Steady, Legal}
use Rattle.agreement.specs.Decisions.{NoneDecided}
use Rattle.agreement.specs.Echo.{echo}
use Rattle.agreement.specs.Promises.{StartedWith, InSpan}
use Rattle.agreement.proofs.Steadies.{Ample, strong_steady, meet}
use Rattle.agreement.proofs.Running.{start_fits}
use Rattle.agreement.proofs.Echo.Tests.{Approved, TwoApproved, Mixed}
use Rattle.agreement.proofs.Echo.Sound.{Passed, Justified, second_sound, third_sound, fourth_sound, fifth_sound, decided_sound}
use Rattle.agreement.proofs.Echo.Echoes.{Spans, all_echoes_span}
use Rattle.agreement.proofs.Echo.Heard.{Said, heard_echo, heard_said, ample_said, hearer_started, says_speaks, passed_speaks}

module _ {S : Setting} (three : 3 ≤ S.rule.cover) (C : Crew S) (r : List Event) (lg : Legal (echo S) C r) where
  abbrev history_of : ℕ → List Vote
  history_of j = history r j

  abbrev Says : ℕ → ℕ → ℕ → Type 0
  Says i c v = Said C three r lg i c v

  approved_spans : (j v : ℕ) → Approved S (history_of j) v → Spans C r v
  approved_spans j v a =
      let k = meet (echo S) C three _ _ a.1 a.1 in
      let e = heard_echo C three r lg j k.0 v k.1 k.2 in
      all_echoes_span C r lg k.0 e.0 v k.1 e.1 e.2

  two_span : (j : ℕ) → TwoApproved S (history_of j) → Spans C r 0
  two_span j t = record {
    a_start = λ nz. absurd (nz refl);
    the_only = λ u all. absurd (t.4 ((approved_spans j _ t.2).the_only u all ∙ sym ((approved_spans j _ t.3).the_only u all)));
  }

  mixed_spans : (j : ℕ) → Mixed S (history_of j) → Spans C r 0
  mixed_spans j (inl a) = approved_spans j 0 a
  mixed_spans j (inr t) = two_span j t

  second_spans : (i v : ℕ) → Says i 2 v → Spans C r v
  second_spans i v p = approved_spans i v (second_sound S C.lawful (history_of i) v p)

  ample_spans : (c : ℕ) → eqb c 1 ≡ false → ((i v : ℕ) → Says i c v → Spans C r v) → (j v : ℕ) → Ample S (says (seen (history_of j)) c v) → Spans C r v
  ample_spans c n f j v a = let k = ample_said C three r lg c n j v a in f k.0 v k.2

  third_spans : (i v : ℕ) → Says i 3 v → Spans C r v
  third_spans i v p =
      ⊎_elim (λ a. ample_spans 2 refl second_spans i v a) (λ b. subst (Spans C r) (sym b.0) (two_span i b.1)) (third_sound S C.lawful (history_of i) v p)

  passed_spans : (c : ℕ) → eqb c 1 ≡ false → ((i v : ℕ) → Says i c v → Spans C r v) → (j v : ℕ) → Passed S c (history_of j) v → Spans C r v
  passed_spans c n f j v (inl a) = ample_spans c n f j v a
  passed_spans c n f j v (inr b) = subst (Spans C r) (sym b.0) (mixed_spans j b.1)

  fourth_spans : (i v : ℕ) → Says i 4 v → Spans C r v
  fourth_spans i v p = passed_spans 3 refl third_spans i v (fourth_sound S C.lawful (history_of i) v p)

  pub fifth_spans : (i v : ℕ) → Says i 5 v → Spans C r v
  fifth_spans i v p = passed_spans 4 refl fourth_spans i v (fifth_sound S C.lawful (history_of i) v p)

  -- ---- decisions
  abbrev All : ℕ → Type 0
  All u = (i s : ℕ) → Steady (echo S) C i → start_of r i ≡ Some s → s ≡ u

  -- where somebody has started, 0 is not the starting character of all
  not_zero : (j : ℕ) → Steady (echo S) C j → given (start_of r j) ≡ true → (u : ℕ) → All u → u ≢ 0
  not_zero j sj st u all z =
      let k = given_found _ st in
      let low : 1 ≤ k.0 = (start_fits (echo S) C r lg j k.0 k.1).0 in
      let e : k.0 ≡ u = all j k.0 sj k.1 in
      omega (arith, low, e, z)

  abbrev SpanAt : Depth → Decision → Type 0
  SpanAt p d =
      ((v : ℕ) → All v → (d.value ≡ v) × (d.grade ≡ grades p))
      × (NoneDecided d ⊎ ((1 ≤ d.grade) × (d.grade ≤ grades p) × ((i : ℕ) × Steady (echo S) C i × (start_of r i ≡ Some d.value))))

  span_at : (p : Depth) (j : ℕ) (d : Decision) → Steady (echo S) C j → Justified S p (history_of j) d → SpanAt p d
  span_at One j d sj (a, inl z) =
      let sp = passed_spans 3 refl third_spans j d.value a in
      let st = hearer_started C three r lg 3 j (passed_speaks C 3 (history_of j) d.value a) in
      (λ v all. absurd (not_zero j sj st v all (sym (sp.the_only v all) ∙ z.0)), inl z)
  span_at One j d sj (a, inr z) =
      let sp = passed_spans 3 refl third_spans j d.value a in
      (λ v all. (sp.the_only v all, z.1), inr (omega (arith, z.1), omega (arith, z.1), sp.a_start z.0))
  span_at Two j d sj (inl a) =
      let sp = ample_spans 5 refl fifth_spans j d.value a.2 in
      (λ v all. (sp.the_only v all, a.1), inr (omega (arith, a.1), omega (arith, a.1), sp.a_start a.0))
  span_at Two j d sj (inr (inl b)) =
      let k = strong_steady (echo S) C _ b.4 in
      let sp = fourth_spans k.0 d.value (heard_said C three r lg 4 refl j k.0 d.value k.1 k.2) in
      let st = hearer_started C three r lg 5 j b.3 in
      (λ v all. absurd (not_zero j sj st v all (sym ((mixed_spans j b.2).the_only v all))), inr (omega (arith, b.1), omega (arith, b.1), sp.a_start b.0))
  span_at Two j d sj (inr (inr c)) =
      let sp = ample_spans 5 refl fifth_spans j 0 c.1 in
      let st = hearer_started C three r lg 5 j (says_speaks C 5 (history_of j) 0 c.1) in
      (λ v all. absurd (not_zero j sj st v all (sym (sp.the_only v all))), inl c.0)

  pub echo_spanned : (j : ℕ) (d : Decision) → Steady (echo S) C j → decision (echo S) r j ≡ Some d → InSpan (echo S) C (StartedWith r) d
  unfolding decision
  echo_spanned j d sj p =
      let k = span_at S.depth j d sj (decided_sound S C.lawful (history_of j) d p) in
      record { where_all_are_one = k.0; none_or_one_of_them = k.1 }
