-- A run that is written out is legal where a test says so, which the checker computes. Assumes nothing.
use Rattle.std.proofs.Common.{◌≡◌, ℕ, Bool, true, not, ◌&&◌, ◌||◌, ltb, leb, List, [], ◌∷◌, reverse, Some, None, Option, refl, ⊎_elim}
use Rattle.std.proofs.lemmas.Bool.{ltb-true, leb-true, lt-ltb, and_parts, and_from, or_cases, not-true, not_from_false}
use Rattle.quorum.specs.Sets.{member}
use Rattle.quorum.specs.Truth.{clash}
use Rattle.vote.specs.Search.{given}
use Rattle.vote.specs.Setting.{Setting, Protocol}
use Rattle.agreement.specs.Methods.{method_of}
use Rattle.agreement.specs.Runs.{Event, starts, counts, start_of, posted, decision, Crew, Honest, MayFollow, Legal}
use Rattle.agreement.specs.Plays.{Play, some_event, two_faced, Happens}

none_from : (o : Option ℕ) → not (given o) ≡ true → o ≡ None
none_from None p = refl
none_from (Some s) p = clash p refl

module _ {S : Setting} (M : Protocol) (C : Crew S) where
  abbrev honest : ℕ → Bool
  honest i = ltb i S.rule.crew && not (M.may_lie && member i C.listed)

  honest_found : (i : ℕ) → honest i ≡ true → Honest M C i
  honest_found i p = let k = and_parts (ltb i S.rule.crew) _ p in (ltb-true _ _ k.0, not-true _ k.1)

  honest_from : (i : ℕ) → Honest M C i → honest i ≡ true
  honest_from i h = and_from _ _ (lt-ltb _ _ h.0) (not_from_false _ h.1)

  abbrev may_follow : Event → List Event → Bool
  may_follow (starts i s) r = honest i && (not (given (start_of r i)) && (leb 1 s && leb s S.characters))
  may_follow (counts j w) r = honest j && (given (start_of r j) && (not (honest w.sender) || posted M r w.sender w.kind w.value))

  follows : (e : Event) (r : List Event) → may_follow e r ≡ true → MayFollow M C e r
  follows (starts i s) r p =
      let a = and_parts (honest i) _ p in
      let b = and_parts (not (given (start_of r i))) _ a.1 in
      let c = and_parts (leb 1 s) _ b.1 in
      (honest_found i a.0, none_from _ b.0, leb-true _ _ c.0, leb-true _ _ c.1)
  follows (counts j w) r p =
      let a = and_parts (honest j) _ p in
      let b = and_parts (given (start_of r j)) _ a.1 in
      (honest_found j a.0, b.0, λ h. ⊎_elim (λ n. clash (honest_from w.sender h) (not-true _ n)) (λ y. y) (or_cases _ _ b.1))

  unfoldable pub legal : List Event → Bool
  legal [] = true
  legal (e ∷ r) = may_follow e r && legal r

  pub legal_found : (r : List Event) → legal r ≡ true → Legal M C r
  unfolding legal
  legal_found [] p = tt
  legal_found (e ∷ r) p = let k = and_parts (may_follow e r) _ p in (follows e r k.0, legal_found r k.1)

-- a play happens where its tests pass
pub happens : (p : Play) (C : Crew p.setting) → C.listed ≡ p.listed → legal (method_of p.method p.setting) C (reverse p.events) ≡ true
    → some_event (two_faced p.listed p.events) p.events ≡ p.lied → decision (method_of p.method p.setting) (reverse p.events) 0 ≡ Some p.decides → Happens p
happens p C a b c d = (C, a, legal_found (method_of p.method p.setting) C (reverse p.events) b, c, d)
