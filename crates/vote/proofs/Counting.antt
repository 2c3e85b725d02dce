-- What is counted only grows, and a first vote is one that is counted. Assumes nothing.
use Rattle.std.proofs.Common.{◌≡◌, ℕ, true, ◌&&◌, eqb, List, [], ◌∷◌, Some, sym, ⊎_elim}
use mathlib.Core.Path.{fun_ext}
use Rattle.std.proofs.lemmas.Bool.{false≢true, and_parts, and_from, or_cases, or_left, or_right, eqb-true, eq-eqb, ne_eqb}
use Rattle.vote.specs.declared.Vote.{Vote}
use Rattle.vote.specs.History.{seen, of_kind, counted, first, says, speaks}
use Rattle.vote.specs.Search.{given}
use Rattle.vote.proofs.Options.{given_found, given_from, is_found, is_from, is_else_other, holds_none, else_cases, else_left, else_right, else_keeps, else_none, when_found, when_from}

-- ---- one vote more
pub counted_more : (w : Vote) (h : List Vote) (c v i : ℕ) → counted h c v i ≡ true → counted (w ∷ h) c v i ≡ true
unfolding counted
counted_more w h c v i p = or_left (counted h c v i) _ p

pub first_more : (w : Vote) (h : List Vote) (c i v : ℕ) → first h c i ≡ Some v → first (w ∷ h) c i ≡ Some v
unfolding first
first_more w h c i v p = else_keeps _ p

-- a vote of another kind is no first vote
pub first_other : (w : Vote) (h : List Vote) (c : ℕ) → (w.kind ≡ c → ⊥) → first (w ∷ h) c ≡ first h c
unfolding first
first_other w h c ne = fun_ext (λ i. rw (ne_eqb w.kind c ne) (sym (else_none (first h c i))))

-- a vote with another value leaves the senders of a value as they were
pub says_other : (w : Vote) (h : List Vote) (c v : ℕ) → (w.value ≡ v → ⊥) → says (seen (w ∷ h)) c v ≡ says (seen h) c v
unfolding first
says_other w h c v ne = fun_ext (λ i. sym (is_else_other (first h c i) (of_kind c i w) v w.value (λ z. ne (sym z))))

pub says_more : (w : Vote) (h : List Vote) (c v i : ℕ) → says (seen h) c v i ≡ true → says (seen (w ∷ h)) c v i ≡ true
says_more w h c v i p = is_from v (first_more w h c i v (is_found v _ p))

pub speaks_more : (w : Vote) (h : List Vote) (c i : ℕ) → speaks (seen h) c i ≡ true → speaks (seen (w ∷ h)) c i ≡ true
speaks_more w h c i p = let k = given_found _ p in given_from (first_more w h c i k.0 k.1)

-- ---- the vote itself
pub vote_is : (w : Vote) (c v i : ℕ) → (of_kind c i w && eqb w.value v) ≡ true → (w.kind ≡ c) × (w.sender ≡ i) × (w.value ≡ v)
vote_is w c v i p =
    let m = and_parts (of_kind c i w) _ p in
    let k = and_parts (eqb w.kind c) _ m.0 in
    (eqb-true _ _ k.0, eqb-true _ _ k.1, eqb-true _ _ m.1)

pub first_counted : (h : List Vote) (c i v : ℕ) → first h c i ≡ Some v → counted h c v i ≡ true
unfolding first counted
first_counted [] c i v p = holds_none p
first_counted (w ∷ h) c i v p =
    ⊎_elim (λ e. or_left (counted h c v i) _ (first_counted h c i v e))
    (λ e. let k = when_found _ _ _ e in or_right (counted h c v i) _ (and_from _ _ k.0 (eq-eqb _ _ (sym k.1))))
    (else_cases (first h c i) _ v p)

pub counted_first : (h : List Vote) (c v i : ℕ) → counted h c v i ≡ true → given (first h c i) ≡ true
unfolding first counted
counted_first [] c v i p = absurd (false≢true p)
counted_first (w ∷ h) c v i p =
    ⊎_elim (λ e. else_left (first h c i) _ (counted_first h c v i e))
    (λ e. else_right (first h c i) _ (when_from _ _ (and_parts (of_kind c i w) _ e).0))
    (or_cases (counted h c v i) _ p)
