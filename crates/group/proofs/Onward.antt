-- Every list of calls can go on until all that the steady boards have posted is counted. Assumes nothing.
use Rattle.std.proofs.Common.{◌≡◌, ℕ, zero, suc, ◌<◌, ◌≤◌, Bool, true, false, cond, not, ◌&&◌, ◌||◌, eqb, ltb, List, [], ◌∷◌, ◌++◌, Some, None, Option, sym, refl, ap, ap₂, ◌∙◌, subst, ⊎_elim, append_assoc, le_of_suc-le-suc, not-suc-le-zero, eq-or-lt_of_le, arith}
use Rattle.std.proofs.lemmas.Bool.{eqb-true, eq-eqb, lt-ltb, cond_both, cond-true, cond-false, and_from, and_right, false_from_ne_true}
use Rattle.quorum.specs.Rules.{Rule, Lawful}
use Rattle.quorum.specs.Truth.{clash}
use Rattle.vote.specs.declared.Method.{Method}
use Rattle.vote.specs.declared.Method.TheVariants.{Plain, Echo}
use Rattle.vote.specs.declared.Vote.{Vote}
use Rattle.vote.specs.History.{first, counted}
use Rattle.vote.specs.Search.{given}
use Rattle.vote.specs.Setting.{Setting, Protocol}
use Rattle.vote.proofs.Counting.{first_counted}
use Rattle.vote.proofs.Options.{given_found, given_from, else_right, when_from, holds_one}
use Rattle.agreement.specs.Methods.{method_of}
use Rattle.agreement.specs.Runs.{Event, starts, counts, start_of, history, posted, Crew, Honest, Legal}
use Rattle.agreement.proofs.Agreeing.{bounded}
use Rattle.agreement.proofs.Echo.Echoes.{echo_grows, posted_said}
use Rattle.agreement.proofs.Going.{uncounted, fewer, due_or}
use Rattle.agreement.proofs.Plain.Postings.{posts_found, plain_grows}
use Rattle.agreement.proofs.Running.{Grows, posted_found, start_later, sends}
use Rattle.heard.specs.Repeats as echo_counts
use Rattle.board.specs.Shown.{repeats}
use Rattle.group.specs.declared.fault.GroupFault.{GroupFault}
use Rattle.group.specs.declared.terms.Terms.{Terms}
use Rattle.group.specs.Calls.{Call, starting, carrying, start_fault, carry_fault, with_word, done_by, next, run_of}
use Rattle.group.specs.Promises.{Opened, Steady, AllStarted, AllCounted}
use Rattle.group.specs.Terms.{setting_in, method_in, start_at, lies}
use Rattle.group.proofs.Legal.{crew, run_legal, run_grown}
use Rattle.group.proofs.Carried.{posted_is_taken}

-- ---- one word of a kind
grows : (m : Method) (S : Setting) → Grows (method_of m S)
grows Plain S = plain_grows S
grows Echo S = echo_grows S

module _ (S : Setting) (r : List Event) (i c u v : ℕ) where
  plain_one : posted (method_of Plain S) r i c u ≡ true → posted (method_of Plain S) r i c v ≡ true → u ≡ v
  plain_one p q =
      let a = posted_found (method_of Plain S) r i c u p in
      let b = posted_found (method_of Plain S) r i c v q in
      ⊎_elim
      (λ x. ⊎_elim (λ y. x.1 ∙ (holds_one a.1 b.1 ∙ sym y.1)) (λ y. absurd (let n : ⊥ = omega (arith, x.0, y.0) in n)) (posts_found S b.0 (history r i) c v b.2))
      (λ x. ⊎_elim (λ y. absurd (let n : ⊥ = omega (arith, x.0, y.0) in n)) (λ y. holds_one x.2 y.2) (posts_found S b.0 (history r i) c v b.2))
      (posts_found S a.0 (history r i) c u a.2)

  echo_one : eqb c 1 ≡ false → posted (method_of Echo S) r i c u ≡ true → posted (method_of Echo S) r i c v ≡ true → u ≡ v
  echo_one n p q = holds_one (posted_said S r i c u n p) (posted_said S r i c v n q)

-- a word that an honest board has posted, and that is not counted of it, does not repeat another
module _ (S : Setting) (r : List Event) (i j c v : ℕ) where
  word : Vote
  word = record { sender = i; kind = c; value = v }

  -- where two words that the board has posted in the kind are one
  not_spoken : (m : Method) (C : Crew S) → Legal (method_of m S) C r → Honest (method_of m S) C i → posted (method_of m S) r i c v ≡ true → counted (history r j) c v i ≡ false
      → ((u : ℕ) → posted (method_of m S) r i c u ≡ true → posted (method_of m S) r i c v ≡ true → u ≡ v) → given (first (history r j) c i) ≡ false
  not_spoken m C lg hi p n one =
      false_from_ne_true (given (first (history r j) c i))
      (λ q.
      let k = given_found _ q in
      let heard = first_counted (history r j) c i k.0 k.1 in
      let same = one k.0 (sends (method_of m S) C (grows m S) r lg j c k.0 i hi heard) p in
      clash (subst (λ (u : ℕ). counted (history r j) c u i ≡ true) same heard) n)

  fresh : (m : Method) (C : Crew S) → Legal (method_of m S) C r → Honest (method_of m S) C i → posted (method_of m S) r i c v ≡ true → counted (history r j) c v i ≡ false
      → repeats m (history r j) word ≡ false
  unfolding word echo_counts.repeats
  fresh Plain C lg hi p n = not_spoken Plain C lg hi p n (λ u a b. plain_one S r i c u v a b)
  fresh Echo C lg hi p n = go (eqb c 1) refl
    where
      go : (b : Bool) → eqb c 1 ≡ b → cond b (counted (history r j) 1 v i) (given (first (history r j) c i)) ≡ false
      go true e = subst (λ (x : ℕ). counted (history r j) x v i ≡ false) (eqb-true c 1 e) n
      go false e = not_spoken Echo C lg hi p n (λ u a b. echo_one S r i c u v e a b)

-- ---- what a test tells
third_failed : (a b g : Bool) (x y z : GroupFault) → a ≡ true → b ≡ true → given (cond a (cond b (cond (not g) None (Some z)) (Some y)) (Some x)) ≡ true → g ≡ true
third_failed true true true x y z p q e = refl
third_failed true true false x y z p q e = clash e refl
third_failed true false g x y z p q e = clash q refl
third_failed false b g x y z p q e = clash p refl

module _ {R : Rule} {T : Terms} (law : Lawful R) (accepted : Opened R T) where
  abbrev protocol : Protocol
  protocol = method_in R T

  honest : (i : ℕ) → Steady R T i → lies R T i ≡ false
  honest i si = and_right protocol.may_lie _ si.1

  after_call : (xs : List Call) (x : Call) (i : ℕ) → given (start_of (run_of R T xs) i) ≡ true → given (start_of (run_of R T (x ∷ xs)) i) ≡ true
  after_call xs x i p =
      let g = run_grown law accepted (x ∷ []) xs in
      let k = given_found _ p in
      given_from (ap (λ (r : List Event). start_of r i) g.1 ∙ start_later g.0 (run_of R T xs) i k.0 k.1)

  -- ---- starts
  started : (xs : List Call) (i : ℕ) → Steady R T i → given (start_of (run_of R T (starting i ∷ xs)) i) ≡ true
  unfolding run_of next start_of start_fault
  started xs i si =
      let r = run_of R T xs in
      cond_both (given (start_fault R T r i)) r (starts i (start_at T i) ∷ r) (λ (y : List Event). given (start_of y i) ≡ true)
      (λ q. third_failed (ltb i R.crew) (not (lies R T i)) (given (start_of r i)) _ _ _ (lt-ltb i R.crew si.0) (ap not (honest i si)) q)
      (λ q. else_right (start_of r i) _ (when_from _ _ (eq-eqb i i refl)))

  start_all : (n : ℕ) (xs : List Call) → (ys : List Call) × ((i : ℕ) → i < n → Steady R T i → given (start_of (run_of R T (ys ++ xs)) i) ≡ true)
  start_all zero xs = ([], λ i l si. absurd (not-suc-le-zero l))
  start_all (suc n) xs =
      let ih = start_all n xs in (
        starting n ∷ ih.0,
        λ i l si.
            ⊎_elim (λ (e : i ≡ n). subst (λ (j : ℕ). Steady R T j → given (start_of (run_of R T (starting j ∷ (ih.0 ++ xs))) i) ≡ true) e (λ sj. started (ih.0 ++ xs) i sj) (subst (Steady R T) e si))
            (λ (b : i < n). after_call (ih.0 ++ xs) (starting n) i (ih.1 i b si)) (eq-or-lt_of_le (le_of_suc-le-suc l)),
      )

  -- ---- counts
  passes : (r : List Event) (i j c v : ℕ) → Steady R T i → Steady R T j → given (start_of r j) ≡ true → posted protocol r i c v ≡ true → carry_fault R T r j i c v ≡ None
  unfolding carry_fault
  passes r i j c v si sj begun p =
      let s = posted_found protocol r i c v p in
      cond-true (ltb j R.crew && ltb i R.crew) _ _ (and_from _ _ (lt-ltb j R.crew sj.0) (lt-ltb i R.crew si.0))
      ∙ (cond-true (not (lies R T j || lies R T i)) _ _ (ap₂ (λ (a b : Bool). not (a || b)) (honest j sj) (honest i si))
      ∙ (cond-true (given (start_of r j) && given (start_of r i)) _ _ (and_from _ _ begun (given_from s.1))
      ∙ cond-true (posted protocol r i c v) _ _ p))

  carried : (xs : List Call) (i j c v : ℕ) → Steady R T i → Steady R T j → given (start_of (run_of R T xs) j) ≡ true → posted protocol (run_of R T xs) i c v ≡ true
      → counted (history (run_of R T xs) j) c v i ≡ false → run_of R T (carrying j i c v ∷ xs) ≡ counts j (record { sender = i; kind = c; value = v }) ∷ run_of R T xs
  unfolding run_of next crew word
  carried xs i j c v si sj begun p n =
      let r = run_of R T xs in
      let lg = run_legal law accepted xs in
      ap (λ (f : Option GroupFault). cond (given f) r (done_by R T r (carrying j i c v))) (passes r i j c v si sj begun p)
      ∙ (ap (with_word R T r j) (posted_is_taken law accepted r lg j i c v si.0 p)
      ∙ cond-false (repeats T.method (history r j) (record { sender = i; kind = c; value = v })) r _ (fresh (setting_in R T) r i j c v T.method (crew law accepted) lg (si.0, honest i si) p n))

  left : List Event → ℕ
  left r = uncounted protocol (crew law accepted) (bounded T.method (setting_in R T)) r

  abbrev Done : List Call → Type 0
  Done xs = AllStarted R T xs × AllCounted R T xs

  count_all : (fuel : ℕ) (xs : List Call) → left (run_of R T xs) ≤ fuel → AllStarted R T xs → (ys : List Call) × Done (ys ++ xs)
  unfolding crew left
  count_all zero xs l begun =
      let r = run_of R T xs in
      let lg = run_legal law accepted xs in
      let bd = bounded T.method (setting_in R T) in
      ⊎_elim
      (λ d. absurd (let q = fewer protocol (crew law accepted) bd r d.0 d.1 d.2 d.3 d.4.0 d.5.0 d.6 d.7 d.9 in let n : ⊥ = omega (arith, l, q) in n))
      (λ a. ([], (begun, a)))
      (due_or protocol (crew law accepted) bd r lg)
  count_all (suc fuel) xs l begun =
      let r = run_of R T xs in
      let lg = run_legal law accepted xs in
      let bd = bounded T.method (setting_in R T) in
      ⊎_elim
      (λ d.
      let q = fewer protocol (crew law accepted) bd r d.0 d.1 d.2 d.3 d.4.0 d.5.0 d.6 d.7 d.9 in
      let x = carrying d.1 d.0 d.2 d.3 in
      let e = carried xs d.0 d.1 d.2 d.3 d.4 d.5 (begun d.1 d.5) d.8 d.9 in
      let less : left (run_of R T (x ∷ xs)) ≤ fuel = subst (λ (y : List Event). left y ≤ fuel) (sym e) (omega (arith, l, q)) in
      let z = count_all fuel (x ∷ xs) less (λ i si. after_call xs x i (begun i si)) in
      (z.0 ++ x ∷ [], subst Done (sym (append_assoc z.0 (x ∷ []) xs)) z.1))
      (λ a. ([], (begun, a)))
      (due_or protocol (crew law accepted) bd r lg)

  pub all_can_be_counted : (xs : List Call) → (ys : List Call) × Done (ys ++ xs)
  all_can_be_counted xs =
      let s = start_all R.crew xs in
      let z = count_all (left (run_of R T (s.0 ++ xs))) (s.0 ++ xs) (omega arith) (λ i si. s.1 i si.0 si) in
      (z.0 ++ s.0, subst Done (sym (append_assoc z.0 s.0 xs)) z.1)
