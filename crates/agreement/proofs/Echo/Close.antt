-- The echo method: decisions are at most one step apart, and the first one binds. Assumes nothing.
use Rattle.std.proofs.Common.{◌≡◌, ℕ, ◌≤◌, ◌≢◌, List, ◌++◌, Some, sym, refl, ◌∙◌, subst, inl, inr, ⊎_elim}
use Rattle.vote.specs.declared.Decision.{Decision}
use Rattle.vote.specs.declared.Depth.{Depth}
use Rattle.vote.specs.declared.Depth.TheVariants.{One, Two}
use Rattle.vote.specs.declared.Vote.{Vote}
use Rattle.vote.specs.History.{seen, says, speaks}
use Rattle.vote.specs.Setting.{Setting}
use Rattle.vote.proofs.Options.{given_found, holds_one}
use Rattle.agreement.specs.Runs.{Event, history, decision, Crew, Legal}
use Rattle.agreement.specs.Decisions.{AtMostOneStep}
use Rattle.agreement.specs.Echo.{said, echo}
use Rattle.agreement.specs.Promises.{DecidedOn, BindsWhateverStarts}
use Rattle.agreement.proofs.Steadies.{Ample, strong_steady, meet}
use Rattle.agreement.proofs.Steps.{both_none, one_character}
use Rattle.agreement.proofs.Echo.Sound.{Justified, third_sound, fourth_sound, fifth_sound, decided_sound}
use Rattle.agreement.proofs.Echo.Echoes.{said_later}
use Rattle.agreement.proofs.Echo.Heard.{passed_character, third_character, says_speaks, passed_speaks, heard_said, spoken, ample_said, ample_spoken, agree}

module _ {S : Setting} (three : 3 ≤ S.rule.cover) (C : Crew S) where
  -- ---- one run
  module _ (r : List Event) (lg : Legal (echo S) C r) where
    abbrev history_of : ℕ → List Vote
    history_of j = history r j

    -- a character that is decided has ample senders of kind 3 at some board
    root : (p : Depth) (j : ℕ) (d : Decision) → d.value ≢ 0 → Justified S p (history_of j) d → (i : ℕ) × Ample S (says (seen (history_of i)) 3 d.value)
    root One j d nz a = (j, passed_character S 3 (history_of j) d.value nz a.0)
    root Two j d nz (inl a) =
        let k = ample_said C three r lg 5 refl j d.value a.2 in
        let l = ample_said C three r lg 4 refl k.0 d.value (passed_character S 4 (history_of k.0) d.value nz (fifth_sound S C.lawful (history_of k.0) d.value k.2)) in
        (l.0, passed_character S 3 (history_of l.0) d.value nz (fourth_sound S C.lawful (history_of l.0) d.value l.2))
    root Two j d nz (inr (inl b)) =
        let k = strong_steady (echo S) C _ b.4 in
        (k.0, passed_character S 3 (history_of k.0) d.value nz (fourth_sound S C.lawful (history_of k.0) d.value (heard_said C three r lg 4 refl j k.0 d.value k.1 k.2)))
    root Two j d nz (inr (inr c)) = absurd (nz c.0.0)

    -- two characters that are decided are equal
    one_decided : (p : Depth) (i j : ℕ) (d e : Decision) → d.value ≢ 0 → e.value ≢ 0 → Justified S p (history_of i) d → Justified S p (history_of j) e → d.value ≡ e.value
    one_decided p i j d e nd ne a b = let k = root p i d nd a in let l = root p j e ne b in agree C three r lg 3 refl k.0 l.0 _ _ k.1 l.1

    near : (p : Depth) (i j : ℕ) (d e : Decision) → Justified S p (history_of i) d → Justified S p (history_of j) e → AtMostOneStep d e
    near One i j d e (a, inl x) (b, inl y) = both_none d e x y
    near One i j d e (a, inl x) (b, inr y) = inr (inl (inl (x, y.1)))
    near One i j d e (a, inr x) (b, inl y) = inr (inr (inl (y, x.1)))
    near One i j d e (a, inr x) (b, inr y) = one_character d e (one_decided One i j d e x.0 y.0 (a, inr x) (b, inr y)) (inl x.1) (inl y.1)
    near Two i j d e (inl a) (inl b) = one_character d e (one_decided Two i j d e a.0 b.0 (inl a) (inl b)) (inr a.1) (inr b.1)
    near Two i j d e (inl a) (inr (inl b)) = one_character d e (one_decided Two i j d e a.0 b.0 (inl a) (inr (inl b))) (inr a.1) (inl b.1)
    near Two i j d e (inl a) (inr (inr b)) = absurd (a.0 (agree C three r lg 5 refl i j _ _ a.2 b.1))
    near Two i j d e (inr (inl a)) (inl b) = one_character d e (one_decided Two i j d e a.0 b.0 (inr (inl a)) (inl b)) (inl a.1) (inr b.1)
    near Two i j d e (inr (inl a)) (inr (inl b)) = one_character d e (one_decided Two i j d e a.0 b.0 (inr (inl a)) (inr (inl b))) (inl a.1) (inl b.1)
    near Two i j d e (inr (inl a)) (inr (inr b)) = inr (inr (inl (b.0, a.1)))
    near Two i j d e (inr (inr a)) (inl b) = absurd (b.0 (agree C three r lg 5 refl j i _ _ b.2 a.1))
    near Two i j d e (inr (inr a)) (inr (inl b)) = inr (inl (inl (a.0, b.1)))
    near Two i j d e (inr (inr a)) (inr (inr b)) = both_none d e a.0 b.0

    pub echo_close : (i j : ℕ) (d e : Decision) → decision (echo S) r i ≡ Some d → decision (echo S) r j ≡ Some e → AtMostOneStep d e
    unfolding decision
    echo_close i j d e p q = near S.depth i j d e (decided_sound S C.lawful (history_of i) d p) (decided_sound S C.lawful (history_of j) e q)

    -- ---- what a decision stands on
    -- the characters posted in kind 3 are equal
    pub thirds_agree : (i j u v : ℕ) → u ≢ 0 → v ≢ 0 → said S (history_of i) 3 ≡ Some u → said S (history_of j) 3 ≡ Some v → u ≡ v
    thirds_agree i j u v nu nv p q =
        agree C three r lg 2 refl i j u v (third_character S (history_of i) u nu (third_sound S C.lawful (history_of i) u p)) (third_character S (history_of j) v nv (third_sound S C.lawful (history_of j) v q))

    -- a word of kind 4 stands on ample senders of kind 3
    pub fourth_stands : (j v : ℕ) → said S (history_of j) 4 ≡ Some v → Ample S (speaks (seen (history_of j)) 3)
    fourth_stands j v p = passed_speaks C 3 (history_of j) v (fourth_sound S C.lawful (history_of j) v p)

    -- so does a decision, at some board
    decision_stands : (p : Depth) (j : ℕ) (d : Decision) → Justified S p (history_of j) d → (i : ℕ) × Ample S (speaks (seen (history_of i)) 3)
    decision_stands One j d a = (j, passed_speaks C 3 (history_of j) d.value a.0)
    decision_stands Two j d a =
        let all : Ample S (speaks (seen (history_of j)) 5) =
        ⊎_elim (λ x. says_speaks C 5 (history_of j) d.value x.2) (λ y. ⊎_elim (λ x. x.3) (λ x. says_speaks C 5 (history_of j) 0 x.1) y) a in
        let k = ample_spoken C three r lg 5 refl j all in
        let l = ample_spoken C three r lg 4 refl k.0 (passed_speaks C 4 (history_of k.0) k.1 (fifth_sound S C.lawful (history_of k.0) k.1 k.3)) in
        (l.0, fourth_stands l.0 l.1 l.3)

  -- ---- ways to go on
  -- once the senders of kind 3 are ample at some board, a character that is decided later has been posted in kind 3 by now
  posted_by_now : (r x : List Event) (lr : Legal (echo S) C r) (lx : Legal (echo S) C (x ++ r)) (i u : ℕ) → Ample S (speaks (seen (history r i)) 3)
      → DecidedOn (echo S) C (x ++ r) u → (m : ℕ) × (said S (history r m) 3 ≡ Some u)
  unfolding decision
  posted_by_now r x lr lx i u a (j, sj, (d, p, e, nz)) =
      let k = root (x ++ r) lx S.depth j d (λ z. nz (sym e ∙ z)) (decided_sound S C.lawful (history (x ++ r) j) d p) in
      let m = meet (echo S) C three _ _ a k.1 in
      let q = spoken C three r lr 3 refl i m.0 m.1 m.2 in
      let now = heard_said C three (x ++ r) lx 3 refl k.0 m.0 d.value m.1 m.3 in
      let z : q.0 ≡ d.value = holds_one (said_later S x r m.0 3 q.0 q.1) now in
      (m.0, subst (λ (y : ℕ). said S (history r m.0) 3 ≡ Some y) (z ∙ e) q.1)

  -- from then on all ways to go on agree
  pub third_binds : (r : List Event) → Legal (echo S) C r → (i : ℕ) → Ample S (speaks (seen (history r i)) 3)
      → (x y : List Event) → Legal (echo S) C (x ++ r) → Legal (echo S) C (y ++ r) → (u v : ℕ) → DecidedOn (echo S) C (x ++ r) u → DecidedOn (echo S) C (y ++ r) v → u ≡ v
  third_binds r lr i all x y lx ly u v dx dy =
      let a = posted_by_now r x lr lx i u all dx in
      let b = posted_by_now r y lr ly i v all dy in
      thirds_agree r lr a.0 b.0 u v dx.2.3 dy.2.3 a.1 b.1

  pub echo_binds : (r : List Event) → Legal (echo S) C r → BindsWhateverStarts (echo S) C r
  unfolding decision
  echo_binds r lr dr x y lx ly u v dx dy =
      let d = given_found _ dr.2 in
      let k = decision_stands r lr S.depth dr.0 d.0 (decided_sound S C.lawful (history r dr.0) d.0 d.1) in
      third_binds r lr k.0 k.1 x y lx ly u v dx dy
