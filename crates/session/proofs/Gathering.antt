-- A byte more is kept where there is room, and else dropped. Assumes nothing.
use Rattle.std.proofs.Common.{◌≡◌, ℕ, zero, suc, ◌+◌, ◌<◌, ◌≤◌, List, [], ◌∷◌, ◌++◌, length, take, get_or, refl, Ok, Err, Result, sym, ap, ◌∙◌, arith, length-append}
use Rattle.std.specs.Result.{MatchResult}
use Rattle.std.proofs.lemmas.List.{take_all, take-append-le, take_more, append_assoc, length-take}
use Rattle.fixed.specs.declared.Fixed.{Fixed}
use Rattle.fixed.specs.Items.{items_of}

pub gathered : (r : Result (Unit {0}) ℕ) (f h : Fixed ℕ 122) (b : ℕ)
    → MatchResult r (λ done. (length (items_of f) < 122) × (items_of h ≡ items_of f ++ b ∷ [])) (λ back. (length (items_of f) ≡ 122) × (back ≡ b) × (h ≡ f))
    → items_of h ≡ take 122 (items_of f ++ b ∷ [])
gathered (Ok done) f h b is = is.1 ∙ sym (take_all 122 (items_of f ++ b ∷ []) (omega (arith, is.0, length-append (items_of f) (b ∷ []))))
gathered (Err back) f h b is =
    ap items_of is.2 ∙ sym (take_all 122 (items_of f) (omega (arith, is.0))) ∙ sym (take-append-le 122 (items_of f) (b ∷ []) (omega (arith, is.0)))

-- what is kept of a text and more bytes is what is kept of all of them
pub cut_again : (n : ℕ) (xs ys : List ℕ) → take n (take n xs ++ ys) ≡ take n (xs ++ ys)
cut_again zero xs ys = refl
cut_again (suc n) [] ys = refl
cut_again (suc n) (x ∷ xs) ys = ap (λ (l : List ℕ). x ∷ l) (cut_again n xs ys)

-- some bytes more behind a text that is kept
pub then : (text more : List ℕ) {now new : List ℕ} → now ≡ take 122 text → new ≡ take 122 (now ++ more) → new ≡ take 122 (text ++ more)
then text more p q = q ∙ ap (λ (l : List ℕ). take 122 (l ++ more)) p ∙ cut_again 122 text more

pub kept_whole : (f : Fixed ℕ 122) → length (items_of f) ≤ 122
kept_whole f = omega (arith, length-take f.many f.places, f.inside)

-- one byte more of some that are added
pub added_more : (old now new bytes : List ℕ) (i : ℕ) → i < length bytes → now ≡ take 122 (old ++ take i bytes) → new ≡ take 122 (now ++ get_or bytes i 0 ∷ []) → new ≡ take 122 (old ++ take (i + 1) bytes)
added_more old now new bytes i inside before after =
    then (old ++ take i bytes) (get_or bytes i 0 ∷ []) before after
    ∙ ap (take 122) (append_assoc old (take i bytes) (get_or bytes i 0 ∷ []) ∙ ap (λ (l : List ℕ). old ++ l) (sym (take_more bytes i 0 inside)))
