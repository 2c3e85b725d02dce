-- A word that is posted is one that every board takes: its kind is used, and its value is one there is. Assumes nothing.
use Rattle.std.proofs.Common.{◌≡◌, ℕ, zero, suc, ◌<◌, ◌≤◌, Bool, true, false, cond, ◌&&◌, eqb, ltb, List, Some, None, Ok, Option, Result, refl, ap, ◌∙◌, ⊎_elim, arith}
use Rattle.std.specs.Prelude.{is_ok}
use Rattle.std.proofs.lemmas.Bool.{eqb-true, eq-eqb, lt-ltb, cond-true, and_from}
use Rattle.quorum.specs.Rules.{Rule, Lawful}
use Rattle.vote.specs.declared.Depth.{Depth}
use Rattle.vote.specs.declared.Depth.TheVariants.{One, Two}
use Rattle.vote.specs.declared.Method.{Method}
use Rattle.vote.specs.declared.Method.TheVariants.{Plain, Echo}
use Rattle.vote.specs.declared.Vote.{Vote}
use Rattle.vote.specs.History.{Seen, seen}
use Rattle.vote.specs.Search.{is, given}
use Rattle.vote.specs.Setting.{Setting}
use Rattle.vote.proofs.Memories.{memo_sound}
use Rattle.vote.proofs.Options.{holds_none, is_found}
use Rattle.agreement.specs.Methods.{method_of, needed_cover}
use Rattle.agreement.specs.Runs.{Event, history, posted}
use Rattle.agreement.specs.Echo as echo
use Rattle.agreement.specs.Echo.{found, said, echoed}
use Rattle.agreement.proofs.Agreeing.{bounded}
use Rattle.agreement.proofs.Plain.Postings.{posts_found}
use Rattle.agreement.proofs.Running.{posted_found, start_fits}
use Rattle.wire.specs.declared.word.Word.{Word}
use Rattle.wire.specs.declared.fault.FrameFault.{FrameFault}
use Rattle.wire.specs.Fields.{is_within, and_then}
use Rattle.wire.specs.Frames.{word_in}
use Rattle.wire.proofs.FrameText.{word_reads, within_from}
use Rattle.board.specs.declared.fault.BoardFault.{BoardFault}
use Rattle.board.specs.Taking as board
use Rattle.board.specs.Taking.{kinds_used, least_value, word_fault, port_fault, passed_up, word_taken}
use Rattle.group.specs.declared.terms.Terms.{Terms}
use Rattle.group.specs.declared.fault.GroupFault.{GroupFault}
use Rattle.group.specs.Calls.{carrying, taken_at, frame_by, told_with, told_by, fault_of, unless, answer}
use Rattle.group.specs.Promises.{Opened}
use Rattle.group.specs.Terms.{setting_in, method_in, fit_at}
use Rattle.group.proofs.Faultless.{may_carry}
use Rattle.group.proofs.Legal.{crew, LegalRun, word_ranges}

-- ---- which kinds are posted
some_kind : (d : Depth) → 1 ≤ kinds_used Plain d
some_kind One = omega arith
some_kind Two = omega arith

echo_kind : (d : Depth) → 1 ≤ kinds_used Echo d
echo_kind One = omega arith
echo_kind Two = omega arith

two_kinds : (d : Depth) → d ≡ Two → 2 ≤ kinds_used Plain d
two_kinds d e = rw e (omega arith)

module _ (S : Setting) where
  found_kind : (d : Depth) (c : ℕ) (x : Seen) (v : ℕ) → found S d c x ≡ Some v → c ≤ kinds_used Echo d
  unfolding found
  found_kind d zero x v h = holds_none h
  found_kind d (suc zero) x v h = holds_none h
  found_kind One (suc (suc zero)) x v h = omega arith
  found_kind Two (suc (suc zero)) x v h = omega arith
  found_kind One (suc (suc (suc zero))) x v h = omega arith
  found_kind Two (suc (suc (suc zero))) x v h = omega arith
  found_kind One (suc (suc (suc (suc c)))) x v h = holds_none h
  found_kind Two (suc (suc (suc (suc zero)))) x v h = omega arith
  found_kind Two (suc (suc (suc (suc (suc zero))))) x v h = omega arith
  found_kind Two (suc (suc (suc (suc (suc (suc c)))))) x v h = holds_none h

  echo_used : (s : ℕ) (h : List Vote) (c v : ℕ) → echo.posts S s h c v ≡ true → c ≤ kinds_used Echo S.depth
  unfolding echo.posts said
  echo_used s h c v p = go (eqb c 1) refl p
    where
      go : (b : Bool) → eqb c 1 ≡ b → cond b (echoed S s h v) (is v (said S h c)) ≡ true → c ≤ kinds_used Echo S.depth
      go true e q = let one = eqb-true c 1 e in rw one (echo_kind S.depth)
      go false e q = memo_sound (λ g. found S S.depth c (seen g)) (λ _ v. c ≤ kinds_used Echo S.depth) (λ h v. found_kind S.depth c (seen h) v) (λ w h v k. k) h v (is_found v _ q)

  -- a posted word is of a kind that is used, and has no value below the least
  used : (m : Method) (s : ℕ) (h : List Vote) (c v : ℕ) → 1 ≤ s → (method_of m S).posts s h c v ≡ true → (c ≤ kinds_used m S.depth) × (least_value m c ≤ v)
  used Plain s h c v l p =
      ⊎_elim (λ k. (rw k.0 (some_kind S.depth), rw (k.0, k.1) l)) (λ k. (rw k.0 (two_kinds S.depth k.1), rw k.0 (omega arith))) (posts_found S s h c v p)
  used Echo s h c v l p = (echo_used s h c v p, omega arith)

two_suffice : (m : Method) (n : ℕ) → needed_cover m ≤ n → 2 ≤ n
two_suffice Plain n h = h
two_suffice Echo n h = omega (arith, h)

module _ {R : Rule} {T : Terms} (law : Lawful R) (accepted : Opened R T) where
  port_open : (from : ℕ) → from < R.crew → port_fault R from ≡ None
  unfolding port_fault
  port_open from l =
      cond-true (is_within 1 16 R.crew) _ _ (within_from 1 16 R.crew (omega (arith, l)) accepted.crew_fits)
      ∙ (cond-true (is_within 2 3 R.cover) _ _ (within_from 2 3 R.cover (two_suffice T.method R.cover accepted.cover_suffices) accepted.cover_fits)
      ∙ cond-true (ltb from R.crew) _ _ (lt-ltb from R.crew l))

  word_open : (to from c v : ℕ) → 1 ≤ c → c ≤ kinds_used T.method T.depth → least_value T.method c ≤ v → v ≤ T.characters
      → word_fault (fit_at T to) from (record { group = T.group; change = T.change; sender = from; kind = c; value = v }) ≡ None
  unfolding word_fault
  word_open to from c v l u w h =
      cond-true (eqb T.group T.group && eqb T.change T.change) _ _ (and_from _ _ (eq-eqb T.group T.group refl) (eq-eqb T.change T.change refl))
      ∙ (cond-true (eqb from from) _ _ (eq-eqb from from refl)
      ∙ (cond-true (is_within 1 (kinds_used T.method T.depth) c) _ _ (within_from 1 (kinds_used T.method T.depth) c l u)
      ∙ cond-true (is_within (least_value T.method c) T.characters v) _ _ (within_from (least_value T.method c) T.characters v w h)))

  -- every board makes the word of the frame of a posted word
  pub posted_is_taken : (r : List Event) → LegalRun law accepted r → (to from c v : ℕ) → from < R.crew → posted (method_in R T) r from c v ≡ true
      → taken_at R T to from (frame_by R T from c v) ≡ Ok (record { group = T.group; change = T.change; sender = from; kind = c; value = v })
  unfolding crew word_taken
  posted_is_taken r lg to from c v inside sent =
      let M = method_in R T in
      let s = posted_found M r from c v sent in
      let fits = start_fits M (crew law accepted) r lg from s.0 s.1 in
      let b = bounded T.method (setting_in R T) s.0 (history r from) c v fits.1 s.2 in
      let k = used (setting_in R T) T.method s.0 (history r from) c v fits.0 s.2 in
      let w : Word = record { group = T.group; change = T.change; sender = from; kind = c; value = v } in
      let reads : word_in (frame_by R T from c v) ≡ Ok w = word_reads w (word_ranges law accepted r lg from c v inside sent) in
      ap (λ (o : Option BoardFault). board.unless o (and_then (passed_up to (word_in (frame_by R T from c v))) (λ u. board.unless (word_fault (fit_at T to) from u) (Ok u)))) (port_open from inside)
      ∙ (ap (λ (q : Result Word FrameFault). and_then (passed_up to q) (λ u. board.unless (word_fault (fit_at T to) from u) (Ok u))) reads
      ∙ ap (λ (o : Option BoardFault). board.unless o (Ok w)) (word_open to from c v b.0 k.0 k.1 b.2))

  pub carried_is_taken : (r : List Event) → LegalRun law accepted r → (to from c v : ℕ) → fault_of R T r (carrying to from c v) ≡ None
      → is_ok (answer R T r (carrying to from c v)) ≡ true
  unfolding answer
  carried_is_taken r lg to from c v none =
      let m = may_carry R T r to from c v (ap (λ (f : Option GroupFault). given f) none) in
      ap (λ (f : Option GroupFault). is_ok (unless f (told_by R T r (carrying to from c v)))) none
      ∙ ap (λ (q : Result Word BoardFault). is_ok (told_with R T r to q)) (posted_is_taken r lg to from c v m.sender.0 m.word_posted)
