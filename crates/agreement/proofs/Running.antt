-- Runs of any method whose boards take nothing back: what is counted of an honest board, it has posted. Assumes nothing.
use Rattle.std.proofs.Common.{◌≡◌, ℕ, ◌≤◌, Bool, true, false, cond, eqb, List, [], ◌∷◌, ◌++◌, Some, None, Option, refl, subst, ⊎_elim}
use mathlib.Core.Path.{subst₃}
use Rattle.std.proofs.lemmas.Bool.{false≢true, or_cases, eqb-true}
use Rattle.vote.specs.declared.Vote.{Vote}
use Rattle.vote.specs.History.{counted}
use Rattle.vote.specs.Search.{given}
use Rattle.vote.specs.Setting.{Setting, Protocol}
use Rattle.vote.proofs.Options.{holds_none, else_cases, else_left, else_keeps, when_found}
use Rattle.vote.proofs.Counting.{vote_is}
use Rattle.agreement.specs.Runs.{Event, starts, counts, start_of, history, posts_from, posted, Crew, Honest, Legal}

-- ---- one event more
pub grow : (P : List Vote → Type 0) (b : Bool) (w : Vote) (h : List Vote) → (P h → P (w ∷ h)) → P h → P (cond b (w ∷ h) h)
grow P true w h f p = f p
grow P false w h f p = p

-- what holds of a board's history, and is kept by each vote more, is kept by each event more
pub later : (P : List Vote → Type 0) → ((w : Vote) (h : List Vote) → P h → P (w ∷ h)) → (i : ℕ) (x r : List Event) → P (history r i) → P (history (x ++ r) i)
unfolding history
later P f i [] r p = p
later P f i (starts a s ∷ x) r p = later P f i x r p
later P f i (counts a w ∷ x) r p = grow P (eqb a i) w (history (x ++ r) i) (f w (history (x ++ r) i)) (later P f i x r p)

pub start_more : (e : Event) (r : List Event) (i s : ℕ) → start_of r i ≡ Some s → start_of (e ∷ r) i ≡ Some s
unfolding start_of
start_more (starts j t) r i s p = else_keeps _ p
start_more (counts j w) r i s p = p

pub start_later : (x r : List Event) (i s : ℕ) → start_of r i ≡ Some s → start_of (x ++ r) i ≡ Some s
start_later [] r i s p = p
start_later (e ∷ x) r i s p = start_more e (x ++ r) i s (start_later x r i s p)

posts_found : (M : Protocol) (o : Option ℕ) (h : List Vote) (c v : ℕ) → posts_from M o h c v ≡ true → (s : ℕ) × (o ≡ Some s) × (M.posts s h c v ≡ true)
posts_found M None h c v p = absurd (false≢true p)
posts_found M (Some s) h c v p = (s, refl, p)

-- a board that has posted has started
pub posted_found : (M : Protocol) (r : List Event) (i c v : ℕ) → posted M r i c v ≡ true → (s : ℕ) × (start_of r i ≡ Some s) × (M.posts s (history r i) c v ≡ true)
unfolding posted
posted_found M r i c v p = posts_found M (start_of r i) (history r i) c v p

pub posted_from : (M : Protocol) (r : List Event) (i c v s : ℕ) → start_of r i ≡ Some s → M.posts s (history r i) c v ≡ true → posted M r i c v ≡ true
unfolding posted
posted_from M r i c v s e p = rw e p

-- what is posted stays posted
abbrev pub Grows : Protocol → Type 0
Grows M = (s : ℕ) (w : Vote) (h : List Vote) (c v : ℕ) → M.posts s h c v ≡ true → M.posts s (w ∷ h) c v ≡ true

module _ {S : Setting} (M : Protocol) (C : Crew S) where
  -- ---- starts
  pub start_fits : (r : List Event) → Legal M C r → (i s : ℕ) → start_of r i ≡ Some s → (1 ≤ s) × (s ≤ S.characters)
  unfolding start_of
  start_fits [] lg i s p = holds_none p
  start_fits (starts j t ∷ r) lg i s p =
      ⊎_elim (λ e. start_fits r lg.1 i s e) (λ e. let k = when_found _ _ _ e in rw k.1 (lg.0.2, lg.0.3)) (else_cases (start_of r i) _ s p)
  start_fits (counts j w ∷ r) lg i s p = start_fits r lg.1 i s p

  -- a board that has counted has started
  pub counter_started : (r : List Event) → Legal M C r → (j c v i : ℕ) → counted (history r j) c v i ≡ true → given (start_of r j) ≡ true
  unfolding history start_of counted
  counter_started [] lg j c v i p = absurd (false≢true p)
  counter_started (starts a s ∷ r) lg j c v i p = else_left (start_of r j) _ (counter_started r lg.1 j c v i p)
  counter_started (counts a w ∷ r) lg j c v i p = go (eqb a j) refl p (counter_started r lg.1 j c v i)
    where
      go : (b : Bool) → eqb a j ≡ b → counted (cond b (w ∷ history r j) (history r j)) c v i ≡ true → (counted (history r j) c v i ≡ true → given (start_of r j) ≡ true)
          → given (start_of r j) ≡ true
      go true e q f = subst (λ (x : ℕ). given (start_of r x) ≡ true) (eqb-true a j e) lg.0.1
      go false e q f = f q

  -- ---- what is counted of honest boards is posted
  module _ (grows : Grows M) where
    posted_more : (e : Event) (r : List Event) (i c v : ℕ) → posted M r i c v ≡ true → posted M (e ∷ r) i c v ≡ true
    posted_more e r i c v p =
        let k = posted_found M r i c v p in
        posted_from M (e ∷ r) i c v k.0 (start_more e r i k.0 k.1) (later (λ h. M.posts k.0 h c v ≡ true) (λ w h. grows k.0 w h c v) i (e ∷ []) r k.2)

    -- what h holds of honest boards is posted in r
    abbrev pub Sends : List Event → List Vote → Type 0
    Sends r h = (c v i : ℕ) → Honest M C i → counted h c v i ≡ true → posted M r i c v ≡ true

    pub sends_one : (r : List Event) (w : Vote) (h : List Vote) → (Honest M C w.sender → posted M r w.sender w.kind w.value ≡ true) → Sends r h → Sends r (w ∷ h)
    unfolding counted
    sends_one r w h lw f c v i hi p =
        ⊎_elim (λ e. f c v i hi e)
        (λ e. let q = vote_is w c v i e in subst₃ (λ (x y z : ℕ). Honest M C x → posted M r x y z ≡ true) q.1 q.0 q.2 lw hi)
        (or_cases (counted h c v i) _ p)

    sends_more : (e : Event) (r : List Event) (h : List Vote) → Sends r h → Sends (e ∷ r) h
    sends_more e r h f c v i hi p = posted_more e r i c v (f c v i hi p)

    pub sends : (r : List Event) → Legal M C r → (j : ℕ) → Sends r (history r j)
    unfolding history counted
    sends [] lg j c v i hi p = absurd (false≢true p)
    sends (starts a s ∷ r) lg j c v i hi p = sends_more (starts a s) r (history r j) (sends r lg.1 j) c v i hi p
    sends (counts a w ∷ r) lg j c v i hi p =
        sends_more (counts a w) r (cond (eqb a j) (w ∷ history r j) (history r j))
        (grow (Sends r) (eqb a j) w (history r j) (sends_one r w (history r j) lg.0.2) (sends r lg.1 j)) c v i hi p
