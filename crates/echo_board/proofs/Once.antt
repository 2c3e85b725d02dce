-- A vote that repeats another changes nothing that a board posts or decides. Assumes nothing.
use Rattle.std.proofs.Common.{◌≡◌, ℕ, Bool, true, false, cond, ◌&&◌, ◌||◌, eqb, leb, ◌⊎◌, List, [], ◌∷◌, Some, None, Option, sym, refl, ap, ◌∙◌, subst, ap₂, subst₂, inl, inr, ⊎_elim}
use Rattle.std.proofs.lemmas.Bool.{false≢true, and_parts, or_right, eqb-true, eq-eqb}
use Rattle.quorum.specs.Truth.{clash}
use Rattle.vote.specs.declared.Vote.{Vote}
use Rattle.vote.specs.History.{Seen, seen, of_kind, counted, first, memo, ever}
use Rattle.vote.specs.Search.{or_else, when, given, is}
use Rattle.vote.specs.Setting.{Setting}
use Rattle.agreement.specs.Echo.{echoes, found, verdict, said, echoed, decided, posts}
use Rattle.vote.proofs.Options.{else_twice}
use Rattle.vote.proofs.Counting.{vote_is, counted_first}
use Rattle.heard.specs.Repeats.{repeats}

pub or_same : (a b : Bool) → (b ≡ true → a ≡ true) → (a || b) ≡ a
or_same true b f = refl
or_same false true f = sym (f refl)
or_same false false f = refl

else_same : (o : Option ℕ) (b : Bool) (v : ℕ) → (b ≡ true → given o ≡ true) → or_else o (when b v) ≡ o
else_same (Some x) b v f = refl
else_same None true v f = absurd (false≢true (f refl))
else_same None false v f = refl

-- a vote of a kind that its sender has voted in before is no first vote
pub first_known : (h : List Vote) (w : Vote) → given (first h w.kind w.sender) ≡ true → (c i : ℕ) → first (w ∷ h) c i ≡ first h c i
unfolding first
first_known h w known c i =
    else_same (first h c i) (of_kind c i w) w.value (λ p.
    let k = and_parts (eqb w.kind c) _ p in
    subst₂ (λ (x y : ℕ). given (first h x y) ≡ true) (eqb-true _ _ k.0) (eqb-true _ _ k.1) known)

cond_cases : (b x y : Bool) → cond b x y ≡ true → ((b ≡ true) × (x ≡ true)) ⊎ ((b ≡ false) × (y ≡ true))
cond_cases true x y p = inl (refl, p)
cond_cases false x y p = inr (refl, p)

or_twice : (m x : Bool) → ((m || x) || x) ≡ (m || x)
or_twice m x = or_same (m || x) x (or_right m x)

-- ---- what the tests look at is the same
module _ (h : List Vote) (w : Vote) (rep : repeats h w ≡ true) where
  ways : ((eqb w.kind 1 ≡ true) × (counted h 1 w.value w.sender ≡ true)) ⊎ ((eqb w.kind 1 ≡ false) × (given (first h w.kind w.sender) ≡ true))
  unfolding repeats
  ways = cond_cases (eqb w.kind 1) _ _ rep

  echo_same : (v i : ℕ) → counted (w ∷ h) 1 v i ≡ counted h 1 v i
  unfolding counted
  echo_same v i =
      or_same (counted h 1 v i) (of_kind 1 i w && eqb w.value v) (λ p.
      let k = vote_is w 1 v i p in
      ⊎_elim (λ a. subst₂ (λ (x y : ℕ). counted h 1 x y ≡ true) k.2 k.1 a.1) (λ b. clash (eq-eqb _ _ k.0) b.0) ways)

  pub repeated : given (first h w.kind w.sender) ≡ true
  repeated =
      ⊎_elim (λ a. subst (λ (x : ℕ). given (first h x w.sender) ≡ true) (sym (eqb-true _ _ a.0)) (counted_first h 1 w.value w.sender a.1)) (λ b. b.1) ways

  pub seen_same : seen (w ∷ h) ≡ seen h
  seen_same = λ i. record { echo = λ v j. echo_same v j i; first = λ c j. first_known h w repeated c j i }

none_first : (c i : ℕ) → given (first [] c i) ≡ false
unfolding first
none_first c i = refl

-- ---- and so is what is remembered
memo_same : {A : Type 0} (t : Seen → Option A) (h : List Vote) (w : Vote) → repeats h w ≡ true → memo (λ g. t (seen g)) (w ∷ h) ≡ memo (λ g. t (seen g)) h
unfolding memo
memo_same t [] w rep = clash (repeated [] w rep) (none_first w.kind w.sender)
memo_same t (u ∷ h) w rep =
    ap (λ (x : Seen). or_else (or_else (memo (λ g. t (seen g)) h) (t (seen (u ∷ h)))) (t x)) (seen_same (u ∷ h) w rep) ∙ else_twice (memo (λ g. t (seen g)) h) (t (seen (u ∷ h)))

ever_same : (t : Seen → Bool) (h : List Vote) (w : Vote) → repeats h w ≡ true → ever (λ g. t (seen g)) (w ∷ h) ≡ ever (λ g. t (seen g)) h
unfolding ever
ever_same t [] w rep = clash (repeated [] w rep) (none_first w.kind w.sender)
ever_same t (u ∷ h) w rep =
    ap (λ (x : Seen). (ever (λ g. t (seen g)) h || t (seen (u ∷ h))) || t x) (seen_same (u ∷ h) w rep) ∙ or_twice (ever (λ g. t (seen g)) h) (t (seen (u ∷ h)))

module _ (S : Setting) (h : List Vote) (w : Vote) (rep : repeats h w ≡ true) where
  pub posts_same : (start c v : ℕ) → posts S start (w ∷ h) c v ≡ posts S start h c v
  unfolding posts echoed said
  posts_same start c v =
      ap₂ (λ (a : Bool) (o : Option ℕ). cond (eqb c 1) (eqb v start || (leb v S.characters && a)) (is v o)) (ever_same (echoes S v) h w rep) (memo_same (found S S.depth c) h w rep)

  pub decided_same : decided S (w ∷ h) ≡ decided S h
  unfolding decided
  decided_same = memo_same (verdict S S.depth) h w rep
