-- The family of at most f boards of a crew keeps the four laws, where fewer boards than the crew has are in `cover` of its sets. Assumes nothing.
use Rattle.std.specs.Prelude.{◌≡◌, ℕ, zero, suc, ◌+◌, ◌*◌, ◌/◌, ◌%◌, ◌^◌, ◌<◌, ◌≤◌, Bool, true, ◌||◌, List, [], ◌∷◌, length, ◌==◌, nat_le, refl}
use Rattle.std.proofs.Common.{sym, ap, ◌∙◌, ⊎_elim, zero-le, suc-mul, arith, pow_pos}
use Rattle.std.proofs.Math.Arith.{bin_ind}
use Rattle.std.specs.Int.Count.{ones, ones_step}
use Rattle.std.proofs.lemmas.Bool.{false≢true, leb-true, ltb-true, le-leb, lt-ltb, and_parts, and_from, or_cases, eqb-true}
use Rattle.std.specs.List.{list_all}
use Rattle.quorum.specs.Sets.{member, Part, in_some, in_crew}
use Rattle.quorum.specs.Rules.{Lawful}
use Rattle.quorum.specs.Counting.{few, count_rule}
use Rattle.quorum.specs.Members.{member_lt}

-- ---- a part has no more boards, and is no larger a number
low_le : (x y : ℕ) → x < 2 → y < 2 → ((x == 1) ≡ true → (y == 1) ≡ true) → x ≤ y
low_le x y p q f = grind arith

part_le : (s t : ℕ) → Part s t → (ones s ≤ ones t) × (s ≤ t)
unfolding member ones
part_le =
    bin_ind (λ (s : ℕ). (t : ℕ) → Part s t → (ones s ≤ ones t) × (s ≤ t)) (λ t w. (zero-le, zero-le))
    (λ s ih t w.
    let r : (ones (s / 2) ≤ ones (t / 2)) × (s / 2 ≤ t / 2) = ih (t / 2) (λ i. w (suc i)) in
    let low : s % 2 ≤ t % 2 = low_le (s % 2) (t % 2) (omega arith) (omega arith) (w 0) in
    (omega (arith, ones_step s, ones_step t), omega arith))

-- ---- sets that hold a whole crew between them have at least as many boards, counted with repeats
total : List ℕ → ℕ
total [] = 0
total (s ∷ ss) = ones s + total ss

lows : List ℕ → ℕ
lows [] = 0
lows (s ∷ ss) = s % 2 + lows ss

halves : List ℕ → List ℕ
halves [] = []
halves (s ∷ ss) = (s / 2) ∷ halves ss

total_step : (ss : List ℕ) → total ss ≡ lows ss + total (halves ss)
unfolding total lows halves
total_step [] = refl
total_step (s ∷ ss) = omega (arith, ones_step s, total_step ss)

next_board : (i : ℕ) (ss : List ℕ) → in_some (suc i) ss ≡ in_some i (halves ss)
unfolding halves member
next_board i [] = refl
next_board i (s ∷ ss) = ap (λ (b : Bool). member i (s / 2) || b) (next_board i ss)

first_board : (ss : List ℕ) → in_some 0 ss ≡ true → 1 ≤ lows ss
unfolding lows member
first_board [] h = absurd (false≢true h)
first_board (s ∷ ss) h = ⊎_elim (λ e. omega (arith, eqb-true (s % 2) 1 e)) (λ e. omega (arith, first_board ss e)) (or_cases (s % 2 == 1) (in_some 0 ss) h)

reach : (n : ℕ) (ss : List ℕ) → ((i : ℕ) → i < n → in_some i ss ≡ true) → n ≤ total ss
reach zero ss h = zero-le
reach (suc n) ss h =
    let r : n ≤ total (halves ss) = reach n (halves ss) (λ i l. sym (next_board i ss) ∙ h (suc i) (omega arith)) in
    omega (arith, total_step ss, first_board ss (h 0 (omega arith)))

limit : (n f : ℕ) (ss : List ℕ) → list_all (few n f) ss ≡ true → total ss ≤ length ss * f
unfolding total
limit n f [] h = zero-le
limit n f (s ∷ ss) h =
    let k = and_parts (few n f s) (list_all (few n f) ss) h in
    omega (arith, leb-true (ones s) f (and_parts (nat_le (ones s) f) (in_crew n s) k.0).0, limit n f ss k.1, suc-mul (length ss) f)

pub count_lawful : (n c f : ℕ) → c * f < n → Lawful (count_rule n c f)
unfolding ones
count_lawful n c f spare = record {
  nobody_fails = and_from _ _ (le-leb 0 f zero-le) (lt-ltb 0 (2 ^ n) (pow_pos n));
  parts_fail = λ s t w h.
      let k = and_parts (nat_le (ones t) f) (in_crew n t) h in
      let r = part_le s t w in
      let few_t = leb-true (ones t) f k.0 in
      let low_t = ltb-true t (2 ^ n) k.1 in
      and_from _ _ (le-leb (ones s) f (omega arith)) (lt-ltb s (2 ^ n) (omega arith));
  inside_crew = λ s i h m. member_lt n s i (ltb-true s (2 ^ n) (and_parts (nat_le (ones s) f) (in_crew n s) h).1) m;
  never_all = λ ss len h all. omega (arith, reach n ss all, limit n f ss h, ap (λ k. k * f) len);
}
