-- The words that a method newly posts as one more vote is counted, as sets of values by kind. Assumes nothing.
use Rattle.std.specs.Prelude.{ℕ, ◌-◌, ◌^◌, Bool, not, ◌&&◌, List, [], ◌∷◌, slice_set}
use Rattle.quorum.specs.Sets.{set_of}
use Rattle.vote.specs.declared.News.{News}
use Rattle.vote.specs.declared.Vote.{Vote}
use Rattle.vote.specs.Setting.{Protocol}

-- the values 0 to 8 that pass the test, as a set: value v adds 2 to the power v
abbrev pub values : (ℕ → Bool) → ℕ
values p = set_of 9 p

abbrev pub no_news : News
no_news = record { kinds = 0 ∷ 0 ∷ 0 ∷ 0 ∷ 0 ∷ [] }

-- the word of kind c with the value v alone
abbrev pub one_word : ℕ → ℕ → News
one_word c v = record { kinds = slice_set no_news.kinds (c - 1) (2 ^ v) }

module _ (M : Protocol) (start : ℕ) where
  -- posted once w is counted after h, and not before
  abbrev pub newly : List Vote → Vote → ℕ → ℕ → Bool
  newly h w c v = M.posts start (w ∷ h) c v && not (M.posts start h c v)

  unfoldable pub news_of : List Vote → Vote → News
  news_of h w = record { kinds = values (newly h w 1) ∷ values (newly h w 2) ∷ values (newly h w 3) ∷ values (newly h w 4) ∷ values (newly h w 5) ∷ [] }

  -- posted at the start
  unfoldable pub first_news : News
  first_news = record { kinds = values (M.posts start [] 1) ∷ values (M.posts start [] 2) ∷ values (M.posts start [] 3) ∷ values (M.posts start [] 4) ∷ values (M.posts start [] 5) ∷ [] }
