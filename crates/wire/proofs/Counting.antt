-- How many words there are, by the ones of their sets, and how many bytes their frames have. Assumes nothing.
use Rattle.std.proofs.Common.{◌≡◌, ℕ, zero, suc, ◌+◌, ◌-◌, ◌*◌, ◌/◌, ◌%◌, ◌^◌, ◌<◌, ◌≤◌, Bool, true, false, cond, eqb, ⊎_elim, [], ◌∷◌, length, get_or, take, decimal, sym, refl, ap, ◌∙◌, ap₂, one-mul, zero-mul, add-one, one-add, arith, lit<}
use lib.Count.{ones, ones_step, ones_cat}
use Rattle.std.specs.List.{flat_map, sum_by, list_all}
use Rattle.std.proofs.lemmas.List.Sums.{sum_by_push}
use Rattle.std.proofs.lemmas.List.Folds.{sum_by-zero}
use mathlib.Core.Path.{fun_ext}
use Rattle.std.proofs.lemmas.Nat.{mod-pow-add, mod_below, pow_pos, ones-le, zero_from_ones}
use Rattle.std.proofs.lemmas.List.{length-append, length_push, append-nil, nil_from_length, take_more, take_all}
use Rattle.std.proofs.lemmas.Bool.{cond-true, cond-false, eq-eqb, ne_eqb, cases_eq}
use Rattle.wire.specs.declared.posted.Posted.{Posted}
use Rattle.wire.specs.declared.word.Word.{Word}
use Rattle.wire.specs.Frames.{frame_of}
use Rattle.wire.specs.Limits.{comma, line_feed}
use Rattle.wire.specs.Slips.{has, in_order, word_of, holds, if_held, words_of_kind, words_of, frames_of}
use Rattle.wire.proofs.FrameText.{frame_length}
use Rattle.wire.proofs.InOrder.{joined_weighs}
use Rattle.wire.proofs.Widths.{width_one}

ones_bit : (b : ℕ) → b < 2 → ones b ≡ b
unfolding ones
ones_bit b h =
    let none : b / 2 ≡ 0 = omega arith in
    ones_step b ∙ ap (λ n. b % 2 + ones n) none ∙ omega arith

length_if : {A : Type 0} (b : Bool) (x : A) → length (cond b (x ∷ []) []) ≡ cond b 1 0
length_if true x = refl
length_if false x = refl

bit_counted : (b : ℕ) → b < 2 → b ≡ cond (eqb b 1) 1 0
bit_counted b h = grind arith

module _ {A : Type 0} (x : ℕ → A) (m : ℕ) where
  -- the values that a set has are counted by its ones
  pub ones_held : (n : ℕ) → ones (m % 2 ^ n) ≡ length (in_order (λ v. cond (has m v) (x v ∷ []) []) n)
  ones_held zero = let none : m % 1 ≡ 0 = omega arith in ap ones none ∙ ones_bit 0 (lit< tt)
  ones_held (suc n) =
      let b = m / 2 ^ n % 2 in
      ap (λ k. ones (m % 2 ^ k)) (sym (one-add n))
      ∙ ap ones (mod-pow-add m 1 n)
      ∙ ones_cat n b (m % 2 ^ n) (mod_below m (2 ^ n) (pow_pos n))
      ∙ ap₂ ◌+◌ (ones_bit b (omega arith) ∙ bit_counted b (omega arith) ∙ sym (length_if (has m n) (x n))) (ones_held n)
      ∙ omega (arith, length-append (in_order (λ v. cond (has m v) (x v ∷ []) []) n) (cond (has m n) (x n ∷ []) []))

module _ (p : Posted) where
  pub kind_count : (k : ℕ) → ones (get_or p.kinds (k - 1) 0 % 512) ≡ length (words_of_kind p k)
  unfolding words_of_kind
  kind_count k = ones_held (word_of p k) (get_or p.kinds (k - 1) 0) 9

  -- a set without values
  pub none_of_kind : (k : ℕ) → get_or p.kinds (k - 1) 0 % 512 ≡ 0 → words_of_kind p k ≡ []
  none_of_kind k none = nil_from_length (words_of_kind p k) (sym (kind_count k) ∙ ap ones none ∙ ones_bit 0 (lit< tt))

  -- the frame of a value that a set has, and of one that it has not
  pub held_frame : (k v : ℕ) → get_or p.kinds (k - 1) 0 / 2 ^ v % 2 ≡ 1 → flat_map frame_of (if_held p k v) ≡ frame_of (word_of p k v)
  held_frame k v one = ap (flat_map frame_of) (cond-true (holds p k v) _ _ (eq-eqb (get_or p.kinds (k - 1) 0 / 2 ^ v % 2) 1 one)) ∙ append-nil (frame_of (word_of p k v))

  pub none_held : (k v : ℕ) → (get_or p.kinds (k - 1) 0 / 2 ^ v % 2 ≡ 1 → ⊥) → flat_map frame_of (if_held p k v) ≡ []
  none_held k v other = ap (flat_map frame_of) (cond-false (holds p k v) _ _ (ne_eqb (get_or p.kinds (k - 1) 0 / 2 ^ v % 2) 1 other))

  -- every frame of a slip has the same length
  same_length : (k v : ℕ) → k < 10 → v < 10 → length (frame_of (word_of p k v)) ≡ length (frame_of (word_of p 1 0))
  same_length k v kh vh =
      omega (
        arith,
        frame_length (word_of p k v),
        frame_length (word_of p 1 0),
        length_push (decimal k) comma,
        length_push (decimal v) line_feed,
        length_push (decimal 1) comma,
        length_push (decimal 0) line_feed,
        width_one k kh,
        width_one v vh,
        width_one 1 (lit< tt),
        width_one 0 (lit< tt),
      )

  length_held : (b : Bool) (w : Word) → length (flat_map frame_of (cond b (w ∷ []) [])) ≡ length (cond b (w ∷ []) []) * length (frame_of w)
  length_held true w = ap length (append-nil (frame_of w)) ∙ sym (one-mul (length (frame_of w)))
  length_held false w = sym (zero-mul (length (frame_of w)))

  kind_weighs : (k : ℕ) → k < 10 → length (flat_map frame_of (words_of_kind p k)) ≡ length (words_of_kind p k) * length (frame_of (word_of p 1 0))
  unfolding words_of_kind
  kind_weighs k kh =
      joined_weighs frame_of (if_held p k) (length (frame_of (word_of p 1 0))) 9
      (λ v h. length_held (holds p k v) (word_of p k v) ∙ ap (λ n. length (if_held p k v) * n) (same_length k v kh (omega arith)))

  pub frames_weigh : length (frames_of p) ≡ length (words_of p) * length (frame_of (word_of p 1 0))
  unfolding words_of frames_of
  frames_weigh = joined_weighs frame_of (λ j. words_of_kind p (suc j)) (length (frame_of (word_of p 1 0))) 5 (λ j h. kind_weighs (suc j) (omega arith))

  -- one kind more
  pub count_more : (n : ℕ) → length (in_order (λ j. words_of_kind p (suc j)) (n + 1)) ≡ length (in_order (λ j. words_of_kind p (suc j)) n) + ones (get_or p.kinds n 0 % 512)
  count_more n =
      ap (λ k. length (in_order (λ j. words_of_kind p (suc j)) k)) (add-one n)
      ∙ length-append (in_order (λ j. words_of_kind p (suc j)) n) (words_of_kind p (suc n))
      ∙ ap (λ k. length (in_order (λ j. words_of_kind p (suc j)) n) + k) (sym (kind_count (suc n)) ∙ ap (λ i. ones (get_or p.kinds i 0 % 512)) (omega arith))

  -- the first kinds
  words_of_first : (n : ℕ) → n ≤ length p.kinds → length (in_order (λ j. words_of_kind p (suc j)) n) ≡ sum_by (λ m. ones (m % 512)) (take n p.kinds)
  words_of_first zero h = refl
  words_of_first (suc n) h =
      ap (λ k. length (in_order (λ j. words_of_kind p (suc j)) k)) (sym (add-one n))
      ∙ count_more n
      ∙ ap (λ k. k + ones (get_or p.kinds n 0 % 512)) (words_of_first n (omega arith))
      ∙ sym (sum_by_push (λ m. ones (m % 512)) (take n p.kinds) (get_or p.kinds n 0))
      ∙ ap (sum_by (λ m. ones (m % 512))) (sym (take_more p.kinds n 0 (omega arith)) ∙ ap (λ k. take k p.kinds) (add-one n))

  pub words_summed : length p.kinds ≡ 5 → length (words_of p) ≡ sum_by (λ m. ones (m % 512)) p.kinds
  unfolding words_of
  words_summed five = words_of_first 5 (omega arith) ∙ ap (sum_by (λ m. ones (m % 512))) (take_all 5 p.kinds (omega arith))

-- there is no word where no set has a value
bare_is : (m : ℕ) → eqb (ones m) 0 ≡ eqb m 0
bare_is m =
    ⊎_elim (λ (q : m ≡ 0). rw (q, ones_bit 0 (lit< tt))) (λ (q : m ≡ 0 → ⊥). ne_eqb (ones m) 0 (λ z. q (zero_from_ones m z)) ∙ sym (ne_eqb m 0 q)) (cases_eq m 0)

pub none_posted_is : (p : Posted) → length p.kinds ≡ 5 → list_all (λ m. eqb (m % 512) 0) p.kinds ≡ eqb (length (words_of p)) 0
none_posted_is p five =
    ap (λ (t : ℕ → Bool). list_all t p.kinds) (fun_ext (λ m. sym (bare_is (m % 512)))) ∙ sym (sum_by-zero (λ m. ones (m % 512)) p.kinds) ∙ ap (λ (n : ℕ). eqb n 0) (sym (words_summed p five))

pub ones_of_nine : (m : ℕ) → ones (m % 512) ≤ 9
ones_of_nine m = ones-le 9 (m % 512) (mod_below m 512 (lit< tt))

-- nine values of five kinds
pub words_le : (p : Posted) → length (words_of p) ≤ 45
unfolding words_of
words_le p =
    let m = λ (i : ℕ). ones_of_nine (get_or p.kinds i 0) in
    omega (arith, count_more p 0, count_more p 1, count_more p 2, count_more p 3, count_more p 4, m 0, m 1, m 2, m 3, m 4)
