-- Whether a vote makes its value approved, and the echoes that it makes due, as a set, from what is asked for its value and for 0. Assumes nothing.
use Rattle.std.proofs.Common.{◌≡◌, ℕ, ◌-◌, ◌*◌, ◌%◌, ◌^◌, ◌<◌, ◌≤◌, Bool, true, false, not, ◌&&◌, ◌||◌, eqb, get_or, sym, refl, ap, ◌∙◌, ap₂, ⊎_elim, arith}
use mathlib.Core.Bool.{and-true, and-false}
use Rattle.std.proofs.Math.Bool.{and_assoc, and-or_distrib_left}
use mir.Val.{bool_byte}
use lib.Bits.{bit_or, bit_and}
use Rattle.std.proofs.lemmas.Nat.{one_shl}
use Rattle.std.proofs.lemmas.Bool.{cases_eq, eq-eqb, ne_eqb}
use Rattle.quorum.specs.Sets.{member, set_of}
use Rattle.quorum.specs.Members.{member_and, member_bit, member_set_of, member_beyond}
use Rattle.quorum.specs.Rules.{Rule, strong, strong_by, ample}
use Rattle.quorum.specs.declared.rule.FailureRule.{Ghosts}
use Rattle.quorum.proofs.Masks.{set_of_is, set_of_ext, set_of_insert, set_of_or, set_of_and, set_of_minus}
use Rattle.vote.specs.declared.Depth.{Depth}
use Rattle.vote.specs.declared.Vote.{Vote}
use Rattle.vote.specs.declared.voting.Voting.{Voting}
use Rattle.vote.specs.History.{Seen}
use Rattle.vote.specs.News.{values}
use Rattle.vote.proofs.Options.{eqb_turned}
use Rattle.vote.proofs.Seeking.{set_of_none}
use Rattle.agreement.specs.Echo.{approved, parted}
use Rattle.heard.specs.declared.counted.Heard.{Heard}
use Rattle.heard.specs.Shown.{heard_of, setting}
use Rattle.heard.specs.Due.{opens, echo_due, approves}
use Rattle.heard.proofs.Made.{ample_echo, strong_at}
use Rattle.heard.proofs.Read.{echo_at}

-- ---- one value as a set
pub single : (s : ℕ) (p : ℕ → Bool) → s ≤ 8 → ((v : ℕ) → p v ≡ eqb v s) → (1 * 2 ^ s) % 65536 ≡ values p
single s p l f =
    one_shl s 16 (omega arith) ∙ ap (λ (z : ℕ). bit_or z (2 ^ s)) (sym (set_of_none 9)) ∙ sym (set_of_insert 9 (λ i. false) s (omega arith))
    ∙ set_of_ext 9 _ _ (λ i h. eqb_turned s i ∙ sym (f i))

-- where it passes a test, and otherwise none
single_where : (b : Bool) (s : ℕ) → s ≤ 8 → (bool_byte b * 2 ^ s) % 65536 ≡ values (λ v. eqb v s && b)
single_where true s l = single s _ l (λ v. and-true (eqb v s))
single_where false s l = omega arith ∙ sym (set_of_none 9) ∙ set_of_ext 9 _ _ (λ v h. sym (and-false (eqb v s)))

zero_where : (b : Bool) → bool_byte b ≡ values (λ v. eqb v 0 && b)
unfolding set_of
zero_where true = refl
zero_where false = refl

-- ---- a test of one value is one of all values that asks for that value
asked_of : (p q : ℕ → Bool) (u v : ℕ) → (eqb v u && (p u && q u)) ≡ (p v && (eqb v u && q v))
asked_of p q u v =
    ⊎_elim (λ (z : v ≡ u). rw (z, eq-eqb u u refl) refl)
    (λ (z : v ≡ u → ⊥). rw (ne_eqb v u z) (sym (and-false (p v))))
    (cases_eq v u)

-- ---- a set without one board
without_board : (n : ℕ) (p : ℕ → Bool) (j : ℕ) → set_of n p - bit_and (set_of n p) (2 ^ j) ≡ set_of n (λ i. p i && not (eqb j i))
without_board n p j =
    ap (λ (s : ℕ). set_of n p - s)
    (sym (set_of_is n _ (λ i. p i && eqb j i) (λ i h. member_and i (set_of n p) (2 ^ j) ∙ rw (member_set_of n p i h, member_bit i j))
    (λ i h. member_and i (set_of n p) (2 ^ j) ∙ rw (member_beyond n p i h))) ∙ set_of_and n p (eqb j))
    ∙ set_of_minus n p (eqb j)

module _ {B : Type 0} {m : Ghosts B} (V : Voting B m) where
  abbrev R : Rule
  R = m.meaning V.rule.now

  -- ---- whether the vote makes its value approved
  module _ (o : Heard) (d : Depth) (x : Seen) (e : o ≡ heard_of R.crew x) (w : Vote) where
    pub approves_other : (w.kind ≡ 1 → ⊥) → false ≡ approves (setting R V.characters d) w x
    approves_other ne = rw (ne_eqb w.kind 1 ne) refl

    pub approves_few : w.value ≤ 8 → ample R (get_or o.echoes w.value 0) ≡ false → false ≡ approves (setting R V.characters d) w x
    unfolding approved
    approves_few low p = rw (sym (ample_echo V o x e w.value low) ∙ p) (sym (and-false (eqb w.kind 1)))

    pub approves_made : w.value ≤ 8 → w.sender < 16 → w.kind ≡ 1 → ample R (get_or o.echoes w.value 0) ≡ true
        → (s : ℕ) → s ≡ get_or o.echoes w.value 0 - bit_and (get_or o.echoes w.value 0) ((1 * 2 ^ w.sender) % 65536) → {b : Bool} → b ≡ ample R s → not b ≡ approves (setting R V.characters d) w x
    unfolding approved
    approves_made low within same p s q b =
        let t : s ≡ set_of R.crew (λ i. x.echo w.value i && not (eqb w.sender i)) =
        q ∙ rw (one_shl w.sender 16 (omega arith), echo_at R.crew o x e w.value low) (without_board R.crew (x.echo w.value) w.sender) in
        rw (eq-eqb w.kind 1 same, sym (ample_echo V o x e w.value low) ∙ p) (ap not (b ∙ ap (ample R) t))

  module _ (o : Heard) (d : Depth) (x : Seen) (e : o ≡ heard_of R.crew x) (w : Vote) (low : w.value ≤ 8) (echoed : ℕ) where
    abbrev free : ℕ → Bool
    free v = not (member v echoed)

    abbrev Parts : Bool
    Parts = opens R.crew w x && parted (setting R V.characters d) x

    pub echoes_made : {own zero : Bool} → own ≡ (free w.value && strong R (get_or o.echoes w.value 0)) → zero ≡ ((free 0 && opens R.crew w x) && parted (setting R V.characters d) x)
        → bit_or ((bool_byte own * 2 ^ w.value) % 65536) (bool_byte zero) ≡ values (echo_due (setting R V.characters d) w echoed x)
    echoes_made {own} {zero} p q =
        ap₂ bit_or (single_where own w.value low) (zero_where zero) ∙ sym (set_of_or 9 (λ v. eqb v w.value && own) (λ v. eqb v 0 && zero))
        ∙ set_of_ext 9 _ _ (λ v h.
        ap₂ (λ (a b : Bool). (eqb v w.value && a) || (eqb v 0 && b)) (p ∙ ap (λ (b : Bool). free w.value && b) (strong_at V o x e w.value low)) (q ∙ and_assoc (free 0) (opens R.crew w x) _)
        ∙ ap₂ (λ (a b : Bool). a || b) (asked_of free (λ u. strong_by R (x.echo u)) w.value v) (asked_of free (λ u. Parts) 0 v)
        ∙ sym (and-or_distrib_left (free v) _ _))
