-- The echo method in runs: what a steady board is heard to say it has said, and every echo of a steady board lies in the span. Assumes nothing.
use Rattle.std.proofs.Common.{◌≡◌, ℕ, ◌≤◌, Bool, true, false, cond, eqb, leb, ◌≢◌, List, [], ◌∷◌, ◌++◌, Some, None, Option, sym, refl, ap, ◌∙◌, subst, inl, inr, ⊎_elim, arith}
use Rattle.std.proofs.lemmas.Bool.{false≢true, eqb-true, eqb-false, and_parts, and_from, or_cases, or_left, or_right, not-true}
use Rattle.vote.specs.declared.Vote.{Vote}
use Rattle.vote.specs.History.{counted, seen, ever}
use Rattle.vote.specs.Search.{given}
use Rattle.vote.specs.Setting.{Setting}
use Rattle.vote.proofs.Options.{given_found, is_found, is_from}
use Rattle.vote.proofs.Memories.{memo_more, ever_more}
use Rattle.vote.proofs.Counting.{first_counted}
use Rattle.agreement.specs.Runs.{Event, starts, counts, start_of, history, posted, Crew, Steady, Legal}
use Rattle.agreement.specs.Echo.{other, echoes, said, echoed, posts, echo}
use Rattle.agreement.proofs.Steadies.{strong_steady}
use Rattle.agreement.proofs.Running.{later, start_more, posted_found, start_fits, Grows, Sends, sends_one, sends}
use Rattle.agreement.proofs.Echo.Tests.{Echoing, echoes_found}

cond_map : (b a a' d d' : Bool) → (a ≡ true → a' ≡ true) → (d ≡ true → d' ≡ true) → cond b a d ≡ true → cond b a' d' ≡ true
cond_map true a a' d d' f g p = f p
cond_map false a a' d d' f g p = g p

other_found : (u : ℕ) (o : Option ℕ) → other u o ≡ true → (x : ℕ) × (o ≡ Some x) × (u ≢ x)
other_found u None p = absurd (false≢true p)
other_found u (Some x) p = (x, refl, eqb-false u x (not-true _ p))

module _ (S : Setting) where
  -- ---- words stay
  echoed_more : (s : ℕ) (w : Vote) (h : List Vote) (v : ℕ) → echoed S s h v ≡ true → echoed S s (w ∷ h) v ≡ true
  unfolding echoed
  echoed_more s w h v p =
      ⊎_elim (λ a. or_left _ _ a)
      (λ b. let k = and_parts (leb v S.characters) _ b in or_right (eqb v s) _ (and_from _ _ k.0 (ever_more _ w h k.1)))
      (or_cases (eqb v s) _ p)

  said_more : (c v : ℕ) (w : Vote) (h : List Vote) → said S h c ≡ Some v → said S (w ∷ h) c ≡ Some v
  unfolding said
  said_more c v w h p = memo_more _ w h v p

  pub echo_grows : Grows (echo S)
  unfolding posts
  echo_grows s w h c v p = cond_map (eqb c 1) _ _ _ _ (echoed_more s w h v) (λ q. is_from v (said_more c v w h (is_found v _ q))) p

  pub said_later : (x r : List Event) (i c v : ℕ) → said S (history r i) c ≡ Some v → said S (history (x ++ r) i) c ≡ Some v
  said_later x r i c v p = later (λ h. said S h c ≡ Some v) (said_more c v) i x r p

  -- ---- words posted
  pub posts_echo : (s : ℕ) (h : List Vote) (v : ℕ) → posts S s h 1 v ≡ true → echoed S s h v ≡ true
  unfolding posts
  posts_echo s h v p = p

  pub posts_said : (s : ℕ) (h : List Vote) (c v : ℕ) → eqb c 1 ≡ false → posts S s h c v ≡ true → said S h c ≡ Some v
  unfolding posts
  posts_said s h c v n p = is_found v _ (rw n at p)

  pub posted_said : (r : List Event) (i c v : ℕ) → eqb c 1 ≡ false → posted (echo S) r i c v ≡ true → said S (history r i) c ≡ Some v
  posted_said r i c v n p = let k = posted_found (echo S) r i c v p in posts_said k.0 (history r i) c v n k.2

module _ {S : Setting} (C : Crew S) where
  -- ---- the span of the steady boards that have started
  -- a character is one of their starting characters; and where all of these are u, only u is in the span
  pub record Spans (r : List Event) (v : ℕ) : Type 0 where
    pub a_start : v ≢ 0 → (i : ℕ) × Steady (echo S) C i × (start_of r i ≡ Some v)
    pub the_only : (u : ℕ) → ((i s : ℕ) → Steady (echo S) C i → start_of r i ≡ Some s → s ≡ u) → v ≡ u

  spans_more : (e : Event) (r : List Event) (v : ℕ) → Spans r v → Spans (e ∷ r) v
  spans_more e r v p = record {
    a_start = λ nz. let k = p.a_start nz in (k.0, k.1, start_more e r k.0 v k.2);
    the_only = λ u all. p.the_only u (λ i s si q. all i s si (start_more e r i s q));
  }

  -- the steady echoes that h holds lie in the span
  abbrev EchoesSpan : List Event → List Vote → Type 0
  EchoesSpan r h = (i v : ℕ) → Steady (echo S) C i → counted h 1 v i ≡ true → Spans r v

  -- so does any echo that a started board posts on account of h
  echoing_spans : (r : List Event) (lg : Legal (echo S) C r) (j : ℕ) → Steady (echo S) C j → given (start_of r j) ≡ true
      → (h : List Vote) → EchoesSpan r h → (v : ℕ) → Echoing S v h → Spans r v
  echoing_spans r lg j sj st h f v (inl a) = let k = strong_steady (echo S) C _ a in f k.0 v k.1 k.2
  echoing_spans r lg j sj st h f v (inr b) = record {
    a_start = λ nz. absurd (nz b.0);
    the_only = λ u all.
        let s = given_found _ st in
        let low : u ≤ S.characters = let e = all j s.0 sj s.1 in let g = start_fits (echo S) C r lg j s.0 s.1 in omega (arith, e, g.1) in
        let k = strong_steady (echo S) C _ (b.1 u low) in
        let o = other_found u _ k.2 in
        absurd (o.2 (sym ((f k.0 o.0 k.1 (first_counted h 1 k.0 o.0 o.1)).the_only u all)));
  }

  start_spans : (r : List Event) (i s : ℕ) → Steady (echo S) C i → start_of r i ≡ Some s → Spans r s
  start_spans r i s si p = record { a_start = λ nz. (i, si, p); the_only = λ u all. all i s si p }

  -- every echo that a steady board has posted beyond its start
  abbrev LaterEchoesSpan : List Event → Type 0
  LaterEchoesSpan r = (j v : ℕ) → Steady (echo S) C j → ever (λ g. echoes S v (seen g)) (history r j) ≡ true → Spans r v

  echoed_span : (r : List Event) → LaterEchoesSpan r → (j s v : ℕ) → Steady (echo S) C j → start_of r j ≡ Some s → echoed S s (history r j) v ≡ true → Spans r v
  unfolding echoed
  echoed_span r f j s v sj st p =
      ⊎_elim (λ a. start_spans r j v sj (st ∙ ap {B = Option ℕ} Some (sym (eqb-true v s a)))) (λ b. f j v sj (and_parts (leb v S.characters) _ b).1) (or_cases (eqb v s) _ p)

  heard_spans : (r : List Event) → LaterEchoesSpan r → (h : List Vote) → Sends (echo S) C (echo_grows S) r h → EchoesSpan r h
  heard_spans r f h g i v si p =
      let k = posted_found (echo S) r i 1 v (g 1 v i si p) in echoed_span r f i k.0 v si k.1 (posts_echo S k.0 (history r i) v k.2)

  -- one vote counted: its board j has started, and what it holds of steady boards is posted
  counting_spans : (r : List Event) (lg : Legal (echo S) C r) → LaterEchoesSpan r → (a : ℕ) (w : Vote) → given (start_of r a) ≡ true
      → (Steady (echo S) C w.sender → posted (echo S) r w.sender w.kind w.value ≡ true)
      → (j v : ℕ) → Steady (echo S) C j → (b : Bool) → eqb a j ≡ b → ever (λ g. echoes S v (seen g)) (cond b (w ∷ history r j) (history r j)) ≡ true → Spans r v
  unfolding ever
  counting_spans r lg f a w st sent j v sj false e q = f j v sj q
  counting_spans r lg f a w st sent j v sj true e q =
      let started = subst (λ (x : ℕ). given (start_of r x) ≡ true) (eqb-true a j e) st in
      let holds = sends_one (echo S) C (echo_grows S) r w (history r j) sent (sends (echo S) C (echo_grows S) r lg j) in
      ⊎_elim (λ o. f j v sj o)
      (λ n. echoing_spans r lg j sj started (w ∷ history r j) (heard_spans r f (w ∷ history r j) holds) v (echoes_found S v (w ∷ history r j) n))
      (or_cases (ever (λ g. echoes S v (seen g)) (history r j)) _ q)

  later_echoes_span : (r : List Event) → Legal (echo S) C r → LaterEchoesSpan r
  unfolding history ever
  later_echoes_span [] lg j v sj p = absurd (false≢true p)
  later_echoes_span (starts a s ∷ r) lg j v sj p = spans_more (starts a s) r v (later_echoes_span r lg.1 j v sj p)
  later_echoes_span (counts a w ∷ r) lg j v sj p =
      spans_more (counts a w) r v (counting_spans r lg.1 (later_echoes_span r lg.1) a w lg.0.1 lg.0.2 j v sj (eqb a j) refl p)

  -- every echo of a steady board
  pub all_echoes_span : (r : List Event) → Legal (echo S) C r → (j s v : ℕ) → Steady (echo S) C j → start_of r j ≡ Some s → echoed S s (history r j) v ≡ true → Spans r v
  all_echoes_span r lg = echoed_span r (later_echoes_span r lg)
