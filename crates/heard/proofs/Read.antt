-- What the sets of senders say of that which they show. Assumes nothing.
use Rattle.std.proofs.Common.{◌≡◌, ℕ, suc, ◌-◌, ◌<◌, ◌≤◌, get_or, Option, ap, ◌∙◌, arith}
use Rattle.std.proofs.lemmas.List.FromFn.{get_or-map-range_with_len}
use Rattle.quorum.specs.Sets.{member, set_of}
use Rattle.vote.specs.declared.Vote.{Vote}
use Rattle.vote.specs.History.{Seen, says, speaks}
use Rattle.vote.specs.Search.{given, is}
use Rattle.heard.specs.declared.tally.Tally.{Tally}
use Rattle.heard.specs.declared.counted.Heard.{Heard}
use Rattle.heard.specs.Shown.{heard_of, tally_of, table}
use Rattle.heard.specs.Due.{opens}
use Rattle.heard.specs.Masks.{beyond}

pub table_at : {A : Type 0} (n : ℕ) (f : ℕ → A) (i : ℕ) (d : A) → i < n → get_or (table n f) i d ≡ f i
table_at n f i d h = get_or-map-range_with_len f 0 n i i d h (omega arith)

-- ---- a tally
module _ (n : ℕ) (f : ℕ → Option ℕ) (t : Tally) (e : t ≡ tally_of n f) where
  pub tally_all : t.all ≡ set_of n (λ i. given (f i))
  unfolding tally_of
  tally_all = ap (λ (y : Tally). y.all) e

  pub tally_value : (v : ℕ) → v ≤ 8 → get_or t.values v 0 ≡ set_of n (λ i. is v (f i))
  unfolding tally_of
  tally_value v h = ap (λ (y : Tally). get_or y.values v 0) e ∙ table_at 9 (λ v. set_of n (λ i. is v (f i))) v 0 (omega arith)

-- ---- all that is counted
module _ (n : ℕ) (o : Heard) (x : Seen) (e : o ≡ heard_of n x) where
  pub echo_at : (v : ℕ) → v ≤ 8 → get_or o.echoes v 0 ≡ set_of n (x.echo v)
  unfolding heard_of
  echo_at v h = ap (λ (y : Heard). get_or y.echoes v 0) e ∙ table_at 9 (λ v. set_of n (x.echo v)) v 0 (omega arith)

  pub first_at : (j : ℕ) → j < 5 → get_or o.first j beyond ≡ tally_of n (x.first (suc j))
  unfolding heard_of
  first_at j h = ap (λ (y : Heard). get_or y.first j beyond) e ∙ table_at 5 (λ c. tally_of n (x.first (suc c))) j beyond h

  pub value_at : (j v : ℕ) → j < 5 → v ≤ 8 → get_or (get_or o.first j beyond).values v 0 ≡ set_of n (says x (suc j) v)
  value_at j v h k = tally_value n (x.first (suc j)) _ (first_at j h) v k

  pub all_at : (j : ℕ) → j < 5 → (get_or o.first j beyond).all ≡ set_of n (speaks x (suc j))
  all_at j h = tally_all n (x.first (suc j)) _ (first_at j h)

  pub opens_at : (w : Vote) → w.value ≤ 8 → member w.sender (get_or (get_or o.first 0 beyond).values w.value 0) ≡ opens n w x
  opens_at w h = ap (member w.sender) (value_at 0 w.value (omega arith) h)

  -- the kind, counted from 1
  pub first_of : (c : ℕ) → 1 ≤ c → c ≤ 5 → get_or o.first (c - 1) beyond ≡ tally_of n (x.first c)
  first_of c one five = let q : suc (c - 1) ≡ c = omega arith in first_at (c - 1) (omega arith) ∙ ap (λ (z : ℕ). tally_of n (x.first z)) q
