-- The echo method: every steady board decides, once all have started and all that they have posted is counted. Assumes nothing.
use Rattle.std.proofs.Common.{◌≡◌, ℕ, suc, ◌≤◌, true, false, eqb, ◌≢◌, ◌⊎◌, List, Some, None, Option, sym, refl, ap, ◌∙◌, subst, inl, inr, ⊎_elim, arith}
use Rattle.std.proofs.lemmas.Bool.{false≢true, eqb-true, eq-eqb, not-false, or_left, cases_Bool, cases_eq}
use Rattle.quorum.specs.Rules.{strong_by}
use Rattle.quorum.specs.Truth.{clash, all_or}
use Rattle.vote.specs.declared.Depth.{Depth}
use Rattle.vote.specs.declared.Depth.TheVariants.{One, Two}
use Rattle.vote.specs.declared.Vote.{Vote}
use Rattle.vote.specs.History.{counted, first, seen, says, speaks}
use Rattle.vote.specs.Search.{given, is}
use Rattle.vote.specs.Setting.{Setting}
use Rattle.vote.proofs.Options.{given_found, given_from, is_found, is_from, holds_one}
use Rattle.vote.proofs.Counting.{first_counted, counted_first}
use Rattle.agreement.specs.Runs.{Event, start_of, history, posted, decision, Crew, Steady, Legal}
use Rattle.agreement.specs.Echo.{other, mixed, parted, said, echoed, posts, echo}
use Rattle.agreement.specs.Promises.{SteadyStarted, SteadyCounted}
use Rattle.agreement.proofs.Steadies.{Ample, steady_ample, steady_or, ample_strong, split_strong, a_steady}
use Rattle.agreement.proofs.Running.{posted_from, start_fits}
use Rattle.agreement.proofs.Echo.Tests.{Approved, TwoApproved, Mixed, Echoing, mixed_found, mixed_from, parted_found, parted_from}
use Rattle.agreement.proofs.Echo.Sound.{Passed, second_sound, third_sound, fourth_sound, fifth_sound}
use Rattle.agreement.proofs.Echo.Complete.{Ready, Backed, echo_complete, second_complete, third_complete, fourth_complete, fifth_complete, decided_one, decided_two}
use Rattle.agreement.proofs.Echo.Heard.{Said, passed_character, heard_echo, heard_said, ample_said}
use Rattle.agreement.proofs.Echo.Span.{fifth_spans}

other_not : (u : ℕ) (o : Option ℕ) → given o ≡ true → other u o ≡ false → o ≡ Some u
other_not u None p q = absurd (false≢true p)
other_not u (Some x) p q = ap {B = Option ℕ} Some (sym (eqb-true u x (not-false _ q)))

depths : (d : Depth) → (d ≡ One) ⊎ (d ≡ Two)
depths One = inl refl
depths Two = inr refl

module _ {S : Setting} (three : 3 ≤ S.rule.cover) (C : Crew S) (r : List Event) (lg : Legal (echo S) C r) (begun : SteadyStarted (echo S) C r) (delivered : SteadyCounted (echo S) C r) where
  abbrev history_of : ℕ → List Vote
  history_of j = history r j

  abbrev St : ℕ → Type 0
  St i = Steady (echo S) C i

  abbrev Says : ℕ → ℕ → ℕ → Type 0
  Says i c v = Said C three r lg i c v

  -- ---- what steady boards have posted is heard by steady boards
  echo_heard : (i j s v : ℕ) → St i → St j → start_of r i ≡ Some s → echoed S s (history_of i) v ≡ true → counted (history_of j) 1 v i ≡ true
  unfolding posts
  echo_heard i j s v si sj st p = delivered i j 1 v si sj (posted_from (echo S) r i 1 v s st p)

  said_posted : (c : ℕ) → eqb c 1 ≡ false → (i v : ℕ) → St i → Says i c v → posted (echo S) r i c v ≡ true
  unfolding posts
  said_posted c n i v si p = let s = given_found _ (begun i si) in posted_from (echo S) r i c v s.0 s.1 (rw n (is_from v p))

  said_heard : (c : ℕ) → eqb c 1 ≡ false → (i j v : ℕ) → St i → St j → Says i c v → says (seen (history_of j)) c v i ≡ true
  said_heard c n i j v si sj p =
      let k = given_found _ (counted_first (history_of j) c v i (delivered i j c v si sj (said_posted c n i v si p))) in
      let z : k.0 ≡ v = holds_one (heard_said C three r lg c n j i k.0 si (is_from k.0 k.1)) p in
      is_from v (k.1 ∙ ap {B = Option ℕ} Some z)

  -- an echo heard by one is heard by all
  echo_passed : (i j m v : ℕ) → St m → St j → counted (history_of i) 1 v m ≡ true → counted (history_of j) 1 v m ≡ true
  echo_passed i j m v sm sj p = let e = heard_echo C three r lg i m v sm p in echo_heard m j e.0 v sm sj e.1 e.2

  own_echo : (s : ℕ) (h : List Vote) → echoed S s h s ≡ true
  unfolding echoed
  own_echo s h = or_left _ _ (eq-eqb s s refl)

  -- each steady board's start is heard by each
  start_heard : (i j : ℕ) → St i → St j → (s : ℕ) × (counted (history_of j) 1 s i ≡ true)
  start_heard i j si sj = let s = given_found _ (begun i si) in (s.0, echo_heard i j s.0 s.0 si sj s.1 (own_echo s.0 (history_of i)))

  -- ---- values approved by all
  abbrev AllApprove : ℕ → Type 0
  AllApprove v = (j : ℕ) → St j → Approved S (history_of j) v

  all_echo : (v : ℕ) → v ≤ S.characters → ((j : ℕ) → St j → Echoing S v (history_of j)) → AllApprove v
  all_echo v l f j sj = (
    l,
    steady_ample (echo S) C _ (λ i si.
        let s = given_found _ (begun i si) in
        let o = start_heard i i si si in
        echo_heard i j s.0 v si sj s.1 (echo_complete S (history_of i) 1 o.0 i o.1 s.0 v l (f i si))),
  )

  spread : (i v : ℕ) → St i → Approved S (history_of i) v → AllApprove v
  spread i v si a = all_echo v a.0 (λ j sj. inl (ample_strong (echo S) C three _ _ (λ m sm q. echo_passed i j m v sm sj q) a.1))

  -- a board whose openings are not parted shows a value that all echo
  not_parted : (j : ℕ) → St j → parted S (seen (history_of j)) ≡ false → (v : ℕ) × AllApprove v
  not_parted j sj e =
      ⊎_elim
      (λ f. clash (parted_from S (history_of j) (λ u l. f u (omega (arith, l)))) e)
      (λ k. (
        k.0,
        all_echo k.0 (omega (arith, k.1)) (λ m sm. inl (split_strong (echo S) C three (λ i. other k.0 (first (history_of j) 1 i)) _
            (λ i si q.
            let s = start_heard i j si sj in
            let o = other_not k.0 (first (history_of j) 1 i) (counted_first (history_of j) 1 s.0 i s.1) q in
            echo_passed j m i k.0 si sm (first_counted (history_of j) 1 i k.0 o))
            k.2)),
      ))
      (all_or (suc S.characters) (λ u. strong_by S.rule (λ i. other u (first (history_of j) 1 i))))

  some_approved : (v : ℕ) × AllApprove v
  some_approved =
      ⊎_elim
      (λ f. (0, all_echo 0 (omega arith) (λ j sj. inr (refl, parted_found S (history_of j) (f j sj)))))
      (λ k. not_parted k.0 k.1 k.2)
      (steady_or (echo S) C (λ j. parted S (seen (history_of j))))

  -- ---- every kind is posted by all
  abbrev AllSay : ℕ → Type 0
  AllSay c = (i : ℕ) → St i → (v : ℕ) × Says i c v

  all_speak : (c : ℕ) → eqb c 1 ≡ false → AllSay c → (j : ℕ) → St j → Ample S (speaks (seen (history_of j)) c)
  all_speak c n f j sj = steady_ample (echo S) C _ (λ i si. let k = f i si in given_from (is_found k.0 _ (said_heard c n i j k.0 si sj k.1)))

  all_same : (c : ℕ) → eqb c 1 ≡ false → (v : ℕ) → ((i : ℕ) → St i → Says i c v) → (j : ℕ) → St j → Ample S (says (seen (history_of j)) c v)
  all_same c n v f j sj = steady_ample (echo S) C _ (λ i si. said_heard c n i j v si sj (f i si))

  all_second : AllSay 2
  all_second j sj = let o = start_heard j j sj sj in given_found _ (second_complete S (history_of j) 1 o.0 j o.1 some_approved.0 (some_approved.1 j sj))

  all_third : AllSay 3
  all_third j sj =
      let o = start_heard j j sj sj in
      let t = a_steady (echo S) C three in
      let z = all_second t.0 t.1 in
      let az = second_sound S C.lawful (history_of t.0) z.0 z.1 in
      given_found _ (third_complete S (history_of j) 1 o.0 j o.1
      (⊎_elim
      (λ f. inl (z.0, (az.0, all_same 2 refl z.0 (λ i si. is_found z.0 _ (f i si)) j sj)))
      (λ k.
      let y = all_second k.0 k.1 in
      let ay = second_sound S C.lawful (history_of k.0) y.0 y.1 in
      inr (
        z.0,
        y.0,
        spread t.0 z.0 t.1 az j sj,
        spread k.0 y.0 k.1 ay j sj,
        λ e. clash (is_from z.0 (y.1 ∙ ap {B = Option ℕ} Some (sym e))) k.2,
      ))
      (steady_or (echo S) C (λ i. is z.0 (said S (history_of i) 2)))))

  two_spread : (i j : ℕ) → St i → St j → TwoApproved S (history_of i) → TwoApproved S (history_of j)
  two_spread i j si sj t = (t.0, t.1, spread i t.0 si t.2 j sj, spread i t.1 si t.3 j sj, t.4)

  mixed_spread : (i j : ℕ) → St i → St j → Mixed S (history_of i) → Mixed S (history_of j)
  mixed_spread i j si sj (inl a) = inl (spread i 0 si a j sj)
  mixed_spread i j si sj (inr t) = inr (two_spread i j si sj t)

  -- ---- where a steady board is not mixed, all say one value
  module _ (j : ℕ) (sj : St j) (pure : Mixed S (history_of j) → ⊥) where
    the_value : ℕ
    the_value = some_approved.0

    only : (i v : ℕ) → St i → Approved S (history_of i) v → v ≡ the_value
    unfolding the_value
    only i v si a =
        ⊎_elim (λ e. e) (λ n. absurd (pure (inr (v, some_approved.0, spread i v si a j sj, some_approved.1 j sj, n)))) (cases_eq v some_approved.0)

    not_zero : the_value ≢ 0
    unfolding the_value
    not_zero e = pure (inl (subst (λ (v : ℕ). Approved S (history_of j) v) e (some_approved.1 j sj)))

    fits : the_value ≤ S.characters
    unfolding the_value
    fits = (some_approved.1 j sj).0

    abbrev Only : ℕ → Type 0
    Only c = (i v : ℕ) → St i → Says i c v → v ≡ the_value

    only_3 : Only 3
    only_3 i v si p =
        ⊎_elim (λ a. let k = ample_said C three r lg 2 refl i v a in only k.0 v k.1 (second_sound S C.lawful (history_of k.0) v k.2))
        (λ b. absurd (pure (inr (two_spread i j si sj b.1))))
        (third_sound S C.lawful (history_of i) v p)

    only_next : (c : ℕ) → eqb c 1 ≡ false → Only c → (i v : ℕ) → St i → Passed S c (history_of i) v → v ≡ the_value
    only_next c n f i v si (inl a) = let k = ample_said C three r lg c n i v a in f k.0 v k.1 k.2
    only_next c n f i v si (inr b) = absurd (pure (mixed_spread i j si sj b.1))

    only_4 : Only 4
    only_4 i v si p = only_next 3 refl only_3 i v si (fourth_sound S C.lawful (history_of i) v p)

    only_5 : Only 5
    only_5 i v si p = only_next 4 refl only_4 i v si (fifth_sound S C.lawful (history_of i) v p)

    ample_only : (c : ℕ) → eqb c 1 ≡ false → AllSay c → Only c → Ample S (says (seen (history_of j)) c the_value)
    ample_only c n f o =
        all_same c n the_value (λ i si. let k = f i si in subst (λ (v : ℕ). said S (history_of i) c ≡ Some v) (o i k.0 si k.1) k.1) j sj

  mixed_or : (j : ℕ) → Mixed S (history_of j) ⊎ (Mixed S (history_of j) → ⊥)
  mixed_or j = ⊎_elim (λ m. inl (mixed_found S (history_of j) m)) (λ n. inr (λ m. clash (mixed_from S (history_of j) m) n)) (cases_Bool (mixed S (seen (history_of j))))

  ready : (c : ℕ) → eqb c 1 ≡ false → AllSay c → ((j : ℕ) (sj : St j) (pure : Mixed S (history_of j) → ⊥) → Only j sj pure c) → (j : ℕ) → St j → Ready S c (history_of j)
  ready c n f o j sj =
      ⊎_elim (λ m. inr (m, all_speak c n f j sj))
      (λ pure. inl (the_value j sj pure, (fits j sj pure, ample_only j sj pure c n f (o j sj pure))))
      (mixed_or j)

  all_fourth : S.depth ≡ Two → AllSay 4
  all_fourth e j sj = let o = start_heard j j sj sj in given_found _ (fourth_complete S (history_of j) 1 o.0 j o.1 e (ready 3 refl all_third only_3 j sj))

  all_fifth : S.depth ≡ Two → AllSay 5
  all_fifth e j sj = let o = start_heard j j sj sj in given_found _ (fifth_complete S (history_of j) 1 o.0 j o.1 e (ready 4 refl (all_fourth e) only_4 j sj))

  -- a mixed board at depth 2: all kind 5 words are 0, or one bears a character, whose kind 4 senders are strong everywhere
  mixed_ends : S.depth ≡ Two → (j : ℕ) → St j → Mixed S (history_of j) → (Mixed S (history_of j) × Ample S (speaks (seen (history_of j)) 5) × Backed S (history_of j)) ⊎ Ample S (says (seen (history_of j)) 5 0)
  mixed_ends e j sj m =
      ⊎_elim
      (λ f. inr (all_same 5 refl 0 (λ i si. is_found 0 _ (f i si)) j sj))
      (λ k.
      let w = all_fifth e k.0 k.1 in
      let nz : w.0 ≢ 0 = λ z. clash (is_from 0 (w.1 ∙ ap {B = Option ℕ} Some z)) k.2 in
      let sp = (fifth_spans three C r lg k.0 w.0 w.1).a_start nz in
      let a : Ample S (says (seen (history_of k.0)) 4 w.0) = passed_character S 4 (history_of k.0) w.0 nz (fifth_sound S C.lawful (history_of k.0) w.0 w.1) in
      inl (
        m,
        all_speak 5 refl (all_fifth e) j sj,
        (
          w.0,
          (start_fits (echo S) C r lg sp.0 w.0 sp.2).1,
          nz,
          (k.0, k.1.0, said_heard 5 refl k.0 j w.0 k.1 sj w.1),
          ample_strong (echo S) C three _ _ (λ i si q. said_heard 4 refl i j w.0 si sj (heard_said C three r lg 4 refl k.0 i w.0 si q)) a,
        ),
      ))
      (steady_or (echo S) C (λ i. is 0 (said S (history_of i) 5)))

  pub echo_ends : (j : ℕ) → St j → given (decision (echo S) r j) ≡ true
  unfolding decision
  echo_ends j sj =
      let o = start_heard j j sj sj in
      ⊎_elim
      (λ e. decided_one S (history_of j) 1 o.0 j o.1 e (ready 3 refl all_third only_3 j sj))
      (λ e. decided_two S (history_of j) 1 o.0 j o.1 e
      (⊎_elim (λ m. inr (mixed_ends e j sj m))
      (λ pure. inl (the_value j sj pure, not_zero j sj pure, (fits j sj pure, ample_only j sj pure 5 refl (all_fifth e) (only_5 j sj pure))))
      (mixed_or j)))
      (depths S.depth)
