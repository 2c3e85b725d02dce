-- The members of a set that is given as a number: of a union, a single board, a test's set, the rest of a crew. Assumes nothing.
use Rattle.std.specs.Prelude.{◌≡◌, ℕ, zero, suc, ◌+◌, ◌*◌, ◌/◌, ◌%◌, ◌^◌, ◌<◌, ◌≤◌, max, Bool, true, false, cond, not, ◌&&◌, ◌||◌, ◌==◌, bit_and, bit_or, nat_eq, refl}
use Rattle.std.proofs.Common.{sym, ap, subst, ◌∙◌, pow-suc, div-one, le_of_suc-le-suc, not-suc-le-zero, arith}
use Rattle.std.proofs.Math.Nat.{div-div-eq-div-mul}
use Rattle.std.proofs.Math.Arith.{bin_ind}
use Rattle.std.specs.Int.Bits.{or_step, and_step}
use Rattle.std.proofs.Math.Dec.{eqb-suc-suc, eqb-zero-suc, eqb-suc-zero}
use Rattle.std.proofs.lemmas.Bool.{eq-eqb, ne_eqb, eqb-true, or_left, false_from_ne_true}
use Rattle.quorum.specs.Sets.{member, set_of, rest, Part, part}
use Rattle.quorum.specs.Truth.{clash}

-- ---- a member, by the number's bits
pub member_is : (i s : ℕ) → member i s ≡ ((s / 2 ^ i) % 2 == 1)
unfolding member
member_is zero s = ap (λ (x : ℕ). nat_eq (x % 2) 1) (sym (div-one s))
member_is (suc i) s = member_is i (s / 2) ∙ ap (λ (x : ℕ). nat_eq (x % 2) 1) (div-div-eq-div-mul s 2 (2 ^ i) ∙ ap (λ (x : ℕ). s / x) (let e = pow-suc 2 i in omega arith))

pub member_none : (i : ℕ) → member i 0 ≡ false
unfolding member
member_none zero = refl
member_none (suc i) = member_none i

-- no board from n up is in a number below 2 to the power n
pub member_lt : (n s i : ℕ) → s < 2 ^ n → member i s ≡ true → i < n
unfolding member
member_lt zero s i l p = clash (subst (λ (x : ℕ). member i x ≡ true) (omega arith) p) (member_none i)
member_lt (suc n) s zero l p = omega arith
member_lt (suc n) s (suc i) l p = let e = pow-suc 2 n in let k = member_lt n (s / 2) i (omega arith) p in omega arith

-- ---- a union, a common part, a single board
or_half : (a b : ℕ) → bit_or a b / 2 ≡ bit_or (a / 2) (b / 2)
or_half a b = let e = or_step a b in omega arith

or_odd : (a b : ℕ) → bit_or a b % 2 ≡ max (a % 2) (b % 2)
or_odd a b = let e = or_step a b in omega arith

max_odd : (x y : ℕ) → x < 2 → y < 2 → (max x y == 1) ≡ (x == 1 || y == 1)
max_odd x y p q = grind arith

pub member_or : (i a b : ℕ) → member i (bit_or a b) ≡ (member i a || member i b)
unfolding member
member_or zero a b = ap (λ (x : ℕ). nat_eq x 1) (or_odd a b) ∙ max_odd (a % 2) (b % 2) (omega arith) (omega arith)
member_or (suc i) a b = ap (member i) (or_half a b) ∙ member_or i (a / 2) (b / 2)

and_half : (a b : ℕ) → bit_and a b / 2 ≡ bit_and (a / 2) (b / 2)
and_half a b = let e = and_step a b in omega arith

pub member_and : (i a b : ℕ) → member i (bit_and a b) ≡ (member i a && member i b)
unfolding member
member_and zero a b = let e = and_step a b in grind arith
member_and (suc i) a b = ap (member i) (and_half a b) ∙ member_and i (a / 2) (b / 2)

pow_half : (i : ℕ) → 2 ^ suc i / 2 ≡ 2 ^ i
pow_half i = omega arith

pub member_bit : (j i : ℕ) → member j (2 ^ i) ≡ (i == j)
unfolding member
member_bit zero zero = refl
member_bit zero (suc i) = ne_eqb _ _ (let e = pow-suc 2 i in omega arith) ∙ sym (eqb-suc-zero i)
member_bit (suc j) zero = member_none j ∙ sym (eqb-zero-suc j)
member_bit (suc j) (suc i) = ap (member j) (pow_half i) ∙ member_bit j i ∙ sym (eqb-suc-suc i j)

-- ---- sets with the same members are equal
odd_eq : (x y : ℕ) → x < 2 → y < 2 → (x == 1) ≡ (y == 1) → x ≡ y
odd_eq x y p q e = grind arith

empty_ext : (t : ℕ) → ((i : ℕ) → member i 0 ≡ member i t) → 0 ≡ t
unfolding member
empty_ext =
    bin_ind (λ (t : ℕ). ((i : ℕ) → member i 0 ≡ member i t) → 0 ≡ t) (λ f. refl)
    (λ t ih f. let a : 0 ≡ t / 2 = ih (λ i. f (suc i)) in let b : 0 ≡ t % 2 = odd_eq 0 (t % 2) (omega arith) (omega arith) (f 0) in omega arith)

pub member_ext : (s t : ℕ) → ((i : ℕ) → member i s ≡ member i t) → s ≡ t
unfolding member
member_ext =
    bin_ind (λ (s : ℕ). (t : ℕ) → ((i : ℕ) → member i s ≡ member i t) → s ≡ t) empty_ext
    (λ s ih t f.
    let a : s / 2 ≡ t / 2 = ih (t / 2) (λ i. f (suc i)) in
    let b : s % 2 ≡ t % 2 = odd_eq (s % 2) (t % 2) (omega arith) (omega arith) (f 0) in
    omega arith)

-- ---- a part, as a test and board by board
pub part_found : (s t : ℕ) → part s t ≡ true → Part s t
part_found s t p i q = ap (member i) (sym (eqb-true _ _ p)) ∙ member_or i s t ∙ or_left (member i s) (member i t) q

or_absorbs : (a b : Bool) → (a ≡ true → b ≡ true) → (a || b) ≡ b
or_absorbs true b f = sym (f refl)
or_absorbs false b f = refl

pub part_from : (s t : ℕ) → Part s t → part s t ≡ true
part_from s t f = eq-eqb _ _ (member_ext (bit_or s t) t (λ i. member_or i s t ∙ or_absorbs _ _ (f i)))

-- ---- the set of a test
pub halve : (x : ℕ) (b : Bool) → (x * 2 + cond b 1 0) / 2 ≡ x
halve x true = omega arith
halve x false = omega arith

odd : (x : ℕ) (b : Bool) → ((x * 2 + cond b 1 0) % 2 == 1) ≡ b
odd x true = eq-eqb _ _ (omega arith)
odd x false = ne_eqb _ _ (omega arith)

pub member_set_of : (n : ℕ) (p : ℕ → Bool) (i : ℕ) → i < n → member i (set_of n p) ≡ p i
unfolding member set_of
member_set_of zero p i h = absurd (not-suc-le-zero h)
member_set_of (suc n) p zero h = odd (set_of n (λ i. p (suc i))) (p 0)
member_set_of (suc n) p (suc i) h = ap (member i) (halve (set_of n (λ i. p (suc i))) (p 0)) ∙ member_set_of n (λ i. p (suc i)) i (le_of_suc-le-suc h)

pub member_below : (n : ℕ) (p : ℕ → Bool) (i : ℕ) → member i (set_of n p) ≡ true → i < n
unfolding member set_of
member_below zero p i h = clash h (member_none i)
member_below (suc n) p zero h = omega arith
member_below (suc n) p (suc i) h =
    let k = member_below n (λ i. p (suc i)) i (sym (ap (member i) (halve (set_of n (λ i. p (suc i))) (p 0))) ∙ h) in omega arith

pub member_beyond : (n : ℕ) (p : ℕ → Bool) (i : ℕ) → n ≤ i → member i (set_of n p) ≡ false
member_beyond n p i h = false_from_ne_true _ (λ e. let k = member_below n p i e in omega arith)

-- ---- the rest of a crew
pub member_rest : (n s i : ℕ) → i < n → member i (rest n s) ≡ not (member i s)
unfolding rest
member_rest n s i h = member_set_of n (λ i. not (member i s)) i h

pub rest_below : (n s i : ℕ) → member i (rest n s) ≡ true → i < n
unfolding rest
rest_below n s i h = member_below n (λ i. not (member i s)) i h
