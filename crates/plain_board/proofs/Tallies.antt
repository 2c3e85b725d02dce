-- A tally with nobody in it, with one sender more, and after a word of another kind. Assumes nothing.
use Rattle.std.proofs.Common.{◌≡◌, ℕ, ◌<◌, ◌≤◌, eqb, List, [], ◌∷◌, None, sym, refl, ap, ◌∙◌}
use mathlib.Core.Path.{fun_ext}
use Rattle.std.proofs.lemmas.Bool.{eq-eqb}
use Rattle.vote.specs.declared.Vote.{Vote}
use Rattle.vote.specs.Search.{or_else, when}
use Rattle.vote.specs.History.{seen, first}
use Rattle.vote.proofs.Counting.{first_other}
use Rattle.heard.specs.declared.tally.Tally.{Tally}
use Rattle.heard.specs.Masks.{added}
use Rattle.heard.specs.Shown.{tally_of as tally_in}
use Rattle.heard.proofs.Grow.{tally_more}
use Rattle.plain_board.specs.Shown.{tally_of}

pub tally_empty : (n c : ℕ) → tally_in n (λ i. None) ≡ tally_of n (seen []) c
unfolding first
tally_empty n c = refl

-- ---- the vote w is counted after h
module _ (h : List Vote) (w : Vote) where
  first_same : first (w ∷ h) w.kind ≡ (λ i. or_else (first h w.kind i) (when (eqb w.sender i) w.value))
  unfolding first
  first_same = fun_ext (λ i. rw (eq-eqb w.kind w.kind refl))

  pub tally_other : (n c : ℕ) → (w.kind ≡ c → ⊥) → tally_of n (seen (w ∷ h)) c ≡ tally_of n (seen h) c
  tally_other n c ne = ap (tally_in n) (first_other w h c ne)

  -- w's sender among those of its kind
  pub counted : (n c : ℕ) (t : Tally) → w.value ≤ 8 → w.sender < n → w.kind ≡ c → t ≡ tally_of n (seen h) c → added t w.value w.sender ≡ tally_of n (seen (w ∷ h)) c
  counted n c t low inside k e =
      ap (λ (y : Tally). added y w.value w.sender) (e ∙ ap (tally_of n (seen h)) (sym k))
      ∙ tally_more n (first h w.kind) w.value w.sender low inside ∙ ap (tally_in n) (sym first_same) ∙ ap (tally_of n (seen (w ∷ h))) k
