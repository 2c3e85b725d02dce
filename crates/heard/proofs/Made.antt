-- What is asked of the sets of senders is what is asked of that which they show. Assumes nothing.
use Rattle.std.proofs.Common.{◌≡◌, ℕ, suc, ◌-◌, ◌<◌, ◌≤◌, Bool, not, ◌&&◌, eqb, leb, get_or, Some, None, Option, refl, ap, ◌∙◌, ap₂, arith}
use lib.Bits.{bit_and}
use lib.Dec.{leb-zero}
use Rattle.quorum.specs.Rules.{Rule, strong, ample, strong_by, ample_by}
use Rattle.quorum.specs.declared.rule.FailureRule.{Ghosts}
use Rattle.quorum.proofs.Masks.{set_of_ext, set_of_minus}
use Rattle.vote.specs.declared.voting.Voting.{Voting}
use Rattle.vote.specs.History.{Seen, says, speaks}
use Rattle.vote.specs.Search.{seek, all_below, some_below, given, is}
use Rattle.agreement.specs.Echo.{other}
use Rattle.vote.proofs.Seeking.{seek_ext, some_in}
use Rattle.heard.specs.declared.counted.Heard.{Heard}
use Rattle.heard.specs.Shown.{heard_of}
use Rattle.heard.specs.Masks.{beyond, others, ample_from, backed_in}
use Rattle.heard.proofs.Read.{echo_at, value_at, all_at}

other_is : (u : ℕ) (a : Option ℕ) → (given a && not (is u a)) ≡ other u a
other_is u None = refl
other_is u (Some v) = refl

-- ---- under what a voting settles
module _ {B : Type 0} {m : Ghosts B} (V : Voting B m) where
  abbrev R : Rule
  R = m.meaning V.rule.now

  abbrev k : ℕ
  k = V.characters

  module _ (o : Heard) (x : Seen) (e : o ≡ heard_of R.crew x) where
    pub ample_echo : (v : ℕ) → v ≤ 8 → ample R (get_or o.echoes v 0) ≡ ample_by R (x.echo v)
    ample_echo v h = ap (ample R) (echo_at R.crew o x e v h)

    pub strong_at : (v : ℕ) → v ≤ 8 → strong R (get_or o.echoes v 0) ≡ strong_by R (x.echo v)
    strong_at v h = ap (strong R) (echo_at R.crew o x e v h)

    pub ample_all : (j : ℕ) → j < 5 → ample R (get_or o.first j beyond).all ≡ ample_by R (speaks x (suc j))
    ample_all j h = ap (ample R) (all_at R.crew o x e j h)

    pub lowest_echo : (f : ℕ) → seek (suc k) (ample_from R o.echoes f) ≡ seek (suc k) (λ v. leb f v && ample_by R (x.echo v))
    lowest_echo f = seek_ext (suc k) _ _ (λ v h. ap (λ (b : Bool). leb f v && b) (ample_echo v (omega arith)))

    pub lowest_approved : seek (suc k) (ample_from R o.echoes 0) ≡ seek (suc k) (λ v. ample_by R (x.echo v))
    lowest_approved = lowest_echo 0 ∙ seek_ext (suc k) _ _ (λ v h. rw (leb-zero v))

    pub parted_is : all_below (suc k) (λ u. strong R (others (get_or o.first 0 beyond) u)) ≡ all_below (suc k) (λ u. strong_by R (λ i. other u (x.first 1 i)))
    parted_is = ap (λ s. not (given s)) (seek_ext (suc k) _ _ (λ u h. ap not (at u (omega arith))))
      where
        at : (u : ℕ) → u ≤ 8 → strong R (others (get_or o.first 0 beyond) u) ≡ strong_by R (λ i. other u (x.first 1 i))
        at u h =
            ap (strong R)
            (ap₂ (λ (a b : ℕ). a - bit_and a b) (all_at R.crew o x e 0 (omega arith)) (value_at R.crew o x e 0 u (omega arith) h)
            ∙ set_of_minus R.crew (speaks x 1) (says x 1 u) ∙ set_of_ext R.crew _ _ (λ i l. other_is u (x.first 1 i)))

    pub backed_is : seek (suc k) (backed_in R (get_or o.first 3 beyond).values (get_or o.first 4 beyond).values)
        ≡ seek (suc k) (λ w. not (eqb w 0) && some_below R.crew (says x 5 w) && strong_by R (says x 4 w))
    backed_is =
        seek_ext (suc k) _ _ (λ w h. ap₂ (λ (a b : Bool). not (eqb w 0) && a && b)
        (ap (λ (s : ℕ). not (eqb s 0)) (value_at R.crew o x e 4 w (omega arith) (omega arith)) ∙ some_in R.crew (says x 5 w))
        (ap (strong R) (value_at R.crew o x e 3 w (omega arith) (omega arith))))
