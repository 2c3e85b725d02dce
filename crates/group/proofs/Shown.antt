-- The records of a run, and what one event more makes of them. Assumes nothing.
use Rattle.std.proofs.Common.{◌≡◌, ℕ, ◌<◌, ◌≤◌, Bool, true, false, cond, ◌||◌, eqb, List, [], ◌∷◌, length, get_or, set, Ok, Err, Option, Result, Some, None, is_some, sym, refl, ap, ◌∙◌, subst, ⊎_elim, arith}
use Rattle.std.proofs.lemmas.Bool.{cond_both, eq-eqb, ne_eqb, cases_lt, or_right, true≢false}
use Rattle.std.proofs.lemmas.List.{get_or_past}
use Rattle.std.proofs.lemmas.List.FromFn.{length-map-range_with_len}
use Rattle.quorum.specs.Rules.{Rule}
use Rattle.vote.specs.declared.Vote.{Vote}
use Rattle.vote.specs.Search.{given}
use Rattle.vote.proofs.Options.{given_else_when}
use Rattle.agreement.specs.Runs.{Event, starts, counts, start_of, history}
use Rattle.wire.specs.declared.word.Word.{Word}
use Rattle.heard.proofs.Grow.{table_set}
use Rattle.heard.proofs.Read.{table_at}
use Rattle.board.specs.declared.fault.BoardFault.{BoardFault}
use Rattle.board.specs.declared.fit.Fit.{Fit}
use Rattle.board.specs.declared.record.Record.{Record}
use Rattle.board.specs.Shown.{record_of, repeats}
use Rattle.board.specs.Taking.{vote_of}
use Rattle.group.specs.declared.records.Records.{Records}
use Rattle.group.specs.declared.terms.Terms.{Terms}
use Rattle.group.specs.declared.fault.GroupFault.{GroupFault}
use Rattle.group.specs.Calls.{Yield, heard_with, board_of, records_of, taken_at, with_word, told_with}
use Rattle.group.specs.Steps.{BoardTakes}
use Rattle.group.specs.Terms.{start_at, fit_at}

module _ (R : Rule) (T : Terms) (r : List Event) where
  -- ---- one board of them
  -- a board that has started shows its record
  started_is : (j : ℕ) (s : Record) → given (start_of r j) ≡ true → s ≡ record_of R (fit_at T j) (history r j) → Some s ≡ board_of R T r j
  unfolding board_of
  started_is j s on is = rw on (ap {B = Option Record} Some is)

  module _ (o : Records) (shown : o ≡ records_of R T r) where
    board_at : (i : ℕ) (d : Option Record) → i < 16 → get_or o.boards i d ≡ board_of R T r i
    unfolding records_of
    board_at i d l = ap (λ (z : Records). get_or z.boards i d) shown ∙ table_at 16 (board_of R T r) i d l

    -- what stands at a board's number tells whether it has started, and its record
    pub begun_at : (i : ℕ) → i < 16 → is_some (get_or o.boards i None) ≡ given (start_of r i)
    unfolding board_of
    begun_at i l = ap is_some (board_at i None l) ∙ some_if (given (start_of r i)) (record_of R (fit_at T i) (history r i))
      where
        some_if : (b : Bool) (s : Record) → is_some (cond b (Some s) None) ≡ b
        some_if true s = refl
        some_if false s = refl

    -- only the sixteen numbers have a record
    pub inside : (i : ℕ) → is_some (get_or o.boards i None) ≡ true → i < 16
    unfolding records_of
    inside i is = ⊎_elim (λ l. l) (λ m. absurd (past m)) (cases_lt i 16)
      where
        past : 16 ≤ i → ⊥
        past m =
            let many : length o.boards ≡ 16 = ap (λ (z : Records). length z.boards) shown ∙ length-map-range_with_len (board_of R T r) 0 16 in
            true≢false (sym is ∙ ap is_some (get_or_past o.boards i None (omega (arith, m, many))))

    pub record_at : (i : ℕ) (s : Record) → get_or o.boards i None ≡ Some s → (given (start_of r i) ≡ true) × (s ≡ record_of R (fit_at T i) (history r i))
    unfolding board_of
    record_at i s is = some_cond (given (start_of r i)) (record_of R (fit_at T i) (history r i)) (sym is ∙ board_at i None (inside i (ap is_some is)))
      where
        some_cond : (b : Bool) (t : Record) → Some s ≡ cond b (Some t) None → (b ≡ true) × (s ≡ t)
        some_cond false t e = absurd (cc)
        some_cond true t e = (refl, (cc))

    -- the records with another board j are those of a run that differs at j only
    other_at : (t : List Event) (j : ℕ) (b : Option Record) → j < 16 → b ≡ board_of R T t j → ((i : ℕ) → i < 16 → (i ≡ j → ⊥) → board_of R T r i ≡ board_of R T t i)
        → record { boards = set o.boards j b } ≡ records_of R T t
    unfolding records_of
    other_at t j b l is same =
        ap (λ (y : List (Option Record)). record { boards = y })
        (ap (λ (y : Records). set y.boards j b) shown ∙ table_set 16 (board_of R T r) (board_of R T t) j b b l is same)

  -- ---- a vote more at board j
  counted_here : (j : ℕ) (w : Vote) → history (counts j w ∷ r) j ≡ w ∷ history r j
  unfolding history
  counted_here j w = rw (eq-eqb j j refl)

  counted_there : (j : ℕ) (w : Vote) (i : ℕ) → (i ≡ j → ⊥) → board_of R T r i ≡ board_of R T (counts j w ∷ r) i
  unfolding board_of history start_of
  counted_there j w i ne = rw (ne_eqb j i (λ q. ne (sym q)))

  start_same : (j : ℕ) (w : Vote) (i : ℕ) → start_of (counts j w ∷ r) i ≡ start_of r i
  unfolding start_of
  start_same j w i = refl

  start_there : (j s i : ℕ) → (i ≡ j → ⊥) → board_of R T r i ≡ board_of R T (starts j s ∷ r) i
  unfolding board_of history start_of
  start_there j s i ne =
      ap (λ (b : Bool). cond b (Some (record_of R (fit_at T i) (history r i))) None)
      (sym (given_else_when (start_of r i) (eqb j i) s ∙ ap (λ (b : Bool). given (start_of r i) || b) (ne_eqb j i (λ q. ne (sym q))) ∙ or_none (given (start_of r i))))
    where
      or_none : (b : Bool) → (b || false) ≡ b
      or_none true = refl
      or_none false = refl

  -- the other boards stay as they are
  taken_there : (j : ℕ) (t : Result Word BoardFault) (i : ℕ) → (i ≡ j → ⊥) → board_of R T r i ≡ board_of R T (with_word R T r j t) i
  taken_there j (Err e) i ne = refl
  taken_there j (Ok w) i ne =
      cond_both (repeats T.method (history r j) (vote_of w)) r (counts j (vote_of w) ∷ r) (λ t. board_of R T r i ≡ board_of R T t i) (λ q. refl)
      (λ q. counted_there j (vote_of w) i ne)

module _ (R : Rule) (T : Terms) (r : List Event) where
  -- board j, once it has taken the vote or found it counted
  taken_vote : (j : ℕ) (w : Vote) (s : Record) → given (start_of r j) ≡ true → (c : Bool) → s ≡ record_of R (fit_at T j) (cond c (history r j) (w ∷ history r j))
      → Some s ≡ board_of R T (cond c r (counts j w ∷ r)) j
  taken_vote j w s on true q = started_is R T r j s on q
  taken_vote j w s on false q =
      started_is R T (counts j w ∷ r) j s (ap (λ (x : Option ℕ). given x) (start_same R T r j w j) ∙ on) (q ∙ ap (record_of R (fit_at T j)) (sym (counted_here R T r j w)))

  taken_here : (j : ℕ) (t : Result Word BoardFault) (s : Record) → given (start_of r j) ≡ true → s ≡ record_of R (fit_at T j) (heard_with R (fit_at T j) (history r j) t)
      → Some s ≡ board_of R T (with_word R T r j t) j
  taken_here j (Err e) s on q = started_is R T r j s on q
  taken_here j (Ok w) s on q = taken_vote j (vote_of w) s on (repeats T.method (history r j) (vote_of w)) q

  pub records_take : (o : Records) (j port : ℕ) (xs : List ℕ) (f : Fit) (d p : Option Record) (a : Result Yield GroupFault) → j < 16 → given (start_of r j) ≡ true → f ≡ fit_at T j
      → BoardTakes R f port xs (get_or o.boards j d) p a → o ≡ records_of R T r
      → (record { boards = set o.boards j p } ≡ records_of R T (with_word R T r j (taken_at R T j port xs))) × (a ≡ told_with R T r j (taken_at R T j port xs))
  records_take o j port xs f d p a l on is takes shown =
      let F = fit_at T j in
      let k = subst (λ (x : Fit). BoardTakes R x port xs (get_or o.boards j d) p a) is takes (history r j)
      (board_at R T r o shown j d l ∙ sym (started_is R T r j (record_of R F (history r j)) on refl)) in (
        other_at R T r o shown (with_word R T r j (taken_at R T j port xs)) j p l
            (k.0 ∙ taken_here j (taken_at R T j port xs) _ on refl) (λ i m ne. taken_there R T r j (taken_at R T j port xs) i ne),
        k.1,
      )

  -- ---- board j starts
  start_here : (j s : ℕ) → given (start_of (starts j s ∷ r) j) ≡ true
  unfolding start_of
  start_here j s = given_else_when (start_of r j) (eqb j j) s ∙ or_right _ _ (eq-eqb j j refl)

  start_state : (j s : ℕ) → history (starts j s ∷ r) j ≡ history r j
  unfolding history
  start_state j s = refl

  pub records_start : (o : Records) (j : ℕ) (s : Record) → j < 16 → o ≡ records_of R T r → history r j ≡ [] → s ≡ record_of R (fit_at T j) []
      → record { boards = set o.boards j (Some s) } ≡ records_of R T (starts j (start_at T j) ∷ r)
  records_start o j s l shown empty first =
      other_at R T r o shown (starts j (start_at T j) ∷ r) j (Some s) l
      (started_is R T (starts j (start_at T j) ∷ r) j s (start_here j (start_at T j)) (first ∙ ap (record_of R (fit_at T j)) (sym (start_state j (start_at T j) ∙ empty))))
      (λ i m ne. start_there R T r j (start_at T j) i ne)
