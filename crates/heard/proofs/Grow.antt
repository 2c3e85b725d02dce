-- Sets of senders that show a history show it with one vote more, once that is noted. Assumes nothing.
use Rattle.std.proofs.Common.{◌≡◌, ℕ, suc, ◌-◌, ◌^◌, ◌<◌, ◌≤◌, Bool, true, false, cond, ◌&&◌, ◌||◌, eqb, List, [], ◌∷◌, length, get_or, set, replicate, None, Option, sym, refl, ap, ◌∙◌, ap₂, ⊎_elim, arith, length-set}
use mathlib.Core.Path.{fun_ext}
use mathlib.Core.Bool.{and-true, and-false, or-false}
use lib.Bits.{bit_or}
use Rattle.std.proofs.lemmas.List.FromFn.{fill_by_all, length-map-range_with_len}
use Rattle.std.proofs.lemmas.List.{get_or-set_same, get_or-set_other}
use Rattle.std.proofs.lemmas.Bool.{eq-eqb, ne_eqb, cases_eq, eqb-true, cond-true, cond-false, cases_Bool}
use Rattle.quorum.specs.Sets.{member, set_of}
use Rattle.quorum.specs.Members.{member_set_of}
use Rattle.quorum.proofs.Masks.{set_of_ext, set_of_insert}
use Rattle.vote.specs.declared.Vote.{Vote}
use Rattle.vote.specs.History.{seen, counted, first}
use Rattle.vote.specs.Search.{given, is, or_else, when}
use Rattle.vote.proofs.Options.{given_else_when, is_else_same, is_else_other, else_none, else_given}
use Rattle.vote.proofs.Counting.{first_other}
use Rattle.vote.proofs.Seeking.{set_of_none}
use Rattle.heard.specs.declared.tally.Tally.{Tally}
use Rattle.heard.specs.declared.counted.Heard.{Heard}
use Rattle.heard.specs.Repeats.{repeats}
use Rattle.heard.specs.Shown.{heard_of, tally_of, table}
use Rattle.heard.specs.Masks.{beyond, with_board, added, noted}
use Rattle.heard.proofs.Read.{table_at, echo_at, all_at}

-- a table with one entry changed
pub table_set : {A : Type 0} (n : ℕ) (f g : ℕ → A) (j : ℕ) (a d : A) → j < n → a ≡ g j → ((i : ℕ) → i < n → (i ≡ j → ⊥) → f i ≡ g i) → set (table n f) j a ≡ table n g
table_set n f g j a d h e same =
    fill_by_all g (set (table n f) j a) n d (length-set (table n f) j a ∙ length-map-range_with_len f 0 n)
    (λ i l. ⊎_elim (λ (q : i ≡ j). at_j i q) (λ (q : i ≡ j → ⊥). get_or-set_other (table n f) j i a d q ∙ table_at n f i d l ∙ same i l q) (cases_eq i j))
  where
    inside : j < length (table n f)
    inside = let q = length-map-range_with_len f 0 n in omega arith

    at_j : (i : ℕ) → i ≡ j → get_or (set (table n f) j a) i d ≡ g i
    at_j i q = ap (λ (z : ℕ). get_or (set (table n f) j a) z d) q ∙ get_or-set_same (table n f) j a d inside ∙ e ∙ ap g (sym q)

-- ---- one sender more in a table of sets
board_more : (n : ℕ) (p q : ℕ → ℕ → Bool) (v j : ℕ) → v ≤ 8 → j < n → ((i : ℕ) → q v i ≡ (p v i || eqb j i)) → ((u i : ℕ) → (u ≡ v → ⊥) → p u i ≡ q u i)
    → with_board (table 9 (λ u. set_of n (p u))) v j ≡ table 9 (λ u. set_of n (q u))
board_more n p q v j low h here there =
    table_set 9 (λ u. set_of n (p u)) (λ u. set_of n (q u)) v _ 0 (omega arith)
    (ap (λ (z : ℕ). bit_or z (2 ^ j)) (table_at 9 (λ u. set_of n (p u)) v 0 (omega arith)) ∙ sym (set_of_insert n (p v) j h) ∙ sym (set_of_ext n _ _ (λ i l. here i)))
    (λ u l ne. set_of_ext n _ _ (λ i b. there u i ne))

pub tally_more : (n : ℕ) (f : ℕ → Option ℕ) (v j : ℕ) → v ≤ 8 → j < n → added (tally_of n f) v j ≡ tally_of n (λ i. or_else (f i) (when (eqb j i) v))
unfolding tally_of
tally_more n f v j low h = ⊎_elim old new (cases_Bool (given (f j)))
  where
    is_in : member j (set_of n (λ i. given (f i))) ≡ given (f j)
    is_in = member_set_of n (λ i. given (f i)) j h

    old : given (f j) ≡ true → added (tally_of n f) v j ≡ tally_of n (λ i. or_else (f i) (when (eqb j i) v))
    old q =
        cond-true _ _ _ (is_in ∙ q)
        ∙ ap (tally_of n) (fun_ext (λ i. ⊎_elim (λ e. else_given (f i) _ (ap (λ z. given (f z)) (sym (eqb-true j i e)) ∙ q)) (λ e. rw e (else_none (f i))) (cases_Bool (eqb j i))))

    fresh : given (f j) ≡ false → (i : ℕ) → eqb j i ≡ true → given (f i) ≡ false
    fresh q i e = ap (λ z. given (f z)) (sym (eqb-true j i e)) ∙ q

    new : given (f j) ≡ false → added (tally_of n f) v j ≡ tally_of n (λ i. or_else (f i) (when (eqb j i) v))
    new q =
        cond-false _ _ _ (is_in ∙ q)
        ∙ ap₂ (λ (a : List ℕ) (b : ℕ). record { values = a; all = b })
        (board_more n (λ u i. is u (f i)) (λ u i. is u (or_else (f i) (when (eqb j i) v))) v j low h
        (λ i. is_else_same (f i) (eqb j i) v (fresh q i)) (λ u i ne. is_else_other (f i) (eqb j i) u v ne))
        (sym (set_of_insert n (λ i. given (f i)) j h) ∙ sym (set_of_ext n _ _ (λ i l. given_else_when (f i) (eqb j i) v)))

pub nobody_is : (n : ℕ) → record { values = replicate 9 0; all = 0 } ≡ tally_of n (λ i. None)
unfolding tally_of
nobody_is n = rw (set_of_none n)

pub nothing_is : (n : ℕ) (t : Tally) → t ≡ tally_of n (λ i. None) → record { echoes = replicate 9 0; first = replicate 5 t } ≡ heard_of n (seen [])
unfolding heard_of counted first
nothing_is n t e = rw (set_of_none n, e)

-- ---- the vote w is counted after h
module _ (n : ℕ) (h : List Vote) (w : Vote) (within : w.sender < n) (low : w.value ≤ 8) (kind1 : 1 ≤ w.kind) (kind5 : w.kind ≤ 5) where
  next : suc (w.kind - 1) ≡ w.kind
  next = omega arith

  firsts : set (table 5 (λ j. tally_of n (first h (suc j)))) (w.kind - 1) (added (get_or (table 5 (λ j. tally_of n (first h (suc j)))) (w.kind - 1) beyond) w.value w.sender) ≡ table 5 (λ j. tally_of n (first (w ∷ h) (suc j)))
  unfolding first
  firsts =
      table_set 5 (λ j. tally_of n (first h (suc j))) (λ j. tally_of n (first (w ∷ h) (suc j))) (w.kind - 1) _ beyond (omega arith)
      (ap (λ (t : Tally). added t w.value w.sender) (table_at 5 (λ j. tally_of n (first h (suc j))) (w.kind - 1) beyond (omega arith))
      ∙ tally_more n (first h (suc (w.kind - 1))) w.value w.sender low within
      ∙ ap (tally_of n) (fun_ext (λ z. rw (eq-eqb w.kind (suc (w.kind - 1)) (sym next)))))
      (λ j l ne. ap (tally_of n) (sym (first_other w h (suc j) (omega arith))))

  echo_more : w.kind ≡ 1 → with_board (table 9 (λ u. set_of n (counted h 1 u))) w.value w.sender ≡ table 9 (λ u. set_of n (counted (w ∷ h) 1 u))
  unfolding counted
  echo_more q =
      board_more n (counted h 1) (counted (w ∷ h) 1) w.value w.sender low within
      (λ z. rw (eq-eqb w.kind 1 q, eq-eqb w.value w.value refl) (ap (λ (b : Bool). counted h 1 w.value z || b) (and-true (eqb w.sender z))))
      (λ u z ne. rw (ne_eqb w.value u (λ t. ne (sym t))) (sym (or-false (counted h 1 u z)) ∙ ap (λ (b : Bool). counted h 1 u z || b) (sym (and-false (eqb w.kind 1 && eqb w.sender z)))))

  echo_same : (w.kind ≡ 1 → ⊥) → table 9 (λ u. set_of n (counted h 1 u)) ≡ table 9 (λ u. set_of n (counted (w ∷ h) 1 u))
  unfolding counted
  echo_same q = ap (table 9) (fun_ext (λ u. set_of_ext n (counted h 1 u) (counted (w ∷ h) 1 u) (λ z b. rw (ne_eqb w.kind 1 q) (sym (or-false (counted h 1 u z))))))

  echoes_next : cond (eqb w.kind 1) (with_board (table 9 (λ u. set_of n (counted h 1 u))) w.value w.sender) (table 9 (λ u. set_of n (counted h 1 u))) ≡ table 9 (λ u. set_of n (counted (w ∷ h) 1 u))
  echoes_next =
      ⊎_elim (λ (q : w.kind ≡ 1). cond-true _ _ _ (eq-eqb w.kind 1 q) ∙ echo_more q) (λ (q : w.kind ≡ 1 → ⊥). cond-false _ _ _ (ne_eqb w.kind 1 q) ∙ echo_same q) (cases_eq w.kind 1)

  module _ (o : Heard) (e : o ≡ heard_of n (seen h)) where
    pub noted_is : noted o w ≡ heard_of n (seen (w ∷ h))
    unfolding heard_of
    noted_is = ap (λ (y : Heard). noted y w) e ∙ ap₂ (λ (a : List ℕ) (b : List Tally). record { echoes = a; first = b }) echoes_next firsts

    pub repeats_echo : w.kind ≡ 1 → member w.sender (get_or o.echoes w.value 0) ≡ repeats h w
    unfolding repeats
    repeats_echo q = ap (member w.sender) (echo_at n o (seen h) e w.value low) ∙ member_set_of n (counted h 1 w.value) w.sender within ∙ sym (cond-true _ _ _ (eq-eqb w.kind 1 q))

    pub repeats_kind : (w.kind ≡ 1 → ⊥) → member w.sender (get_or o.first (w.kind - 1) beyond).all ≡ repeats h w
    unfolding repeats
    repeats_kind q =
        ap (member w.sender) (all_at n o (seen h) e (w.kind - 1) (omega arith)) ∙ member_set_of n (λ z. given (first h (suc (w.kind - 1)) z)) w.sender within
        ∙ ap (λ (z : ℕ). given (first h z w.sender)) next ∙ sym (cond-false _ _ _ (ne_eqb w.kind 1 q))
