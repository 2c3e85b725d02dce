-- How sets of senders show what a board has counted. Assumes nothing.
use Rattle.std.specs.Prelude.{◌≡◌, ℕ, suc, List, map, Option}
use Rattle.std.specs.List.{range_with_len}
use Rattle.quorum.specs.Sets.{set_of}
use Rattle.quorum.specs.Rules.{Rule}
use Rattle.quorum.specs.declared.rule.FailureRule.{Ghosts}
use Rattle.vote.specs.declared.Depth.{Depth}
use Rattle.vote.specs.declared.voting.Voting.{Voting}
use Rattle.vote.specs.History.{Seen}
use Rattle.vote.specs.Search.{given, is}
use Rattle.vote.specs.Setting.{Setting}
use Rattle.heard.specs.declared.tally.Tally.{Tally}
use Rattle.heard.specs.declared.counted.Heard.{Heard}

abbrev pub setting : Rule → ℕ → Depth → Setting
setting R k d = record { rule = R; characters = k; depth = d }

-- what v settles, by the meaning of its rule
abbrev pub setting_in : {B : Type 0} {m : Ghosts B} → Voting B m → Setting
setting_in {m = m} v = setting (m.meaning v.rule.now) v.characters v.depth

-- f 0, f 1 and so on, below n
abbrev pub table : {A : Type 0} → ℕ → (ℕ → A) → List A
table n f = map f (range_with_len 0 n)

-- of a crew of n, the senders whose first vote is f: by the value that it bears, and all
unfoldable pub tally_of : ℕ → (ℕ → Option ℕ) → Tally
tally_of n f = record { values = table 9 (λ v. set_of n (λ i. is v (f i))); all = set_of n (λ i. given (f i)) }

-- of a crew of n, the senders of each echo, and those of the first votes of each kind
unfoldable pub heard_of : ℕ → Seen → Heard
heard_of n x = record { echoes = table 9 (λ v. set_of n (x.echo v)); first = table 5 (λ c. tally_of n (x.first (suc c))) }

-- r is what the test t makes, with the rule and the characters of v, of all that the sets of senders o can show
abbrev pub Makes : {A B : Type 0} {m : Ghosts B} → Voting B m → (Setting → Seen → A) → Heard → A → Type 0
Makes {m = m} v t o r = (d : Depth) (x : Seen) → o ≡ heard_of (m.meaning v.rule.now).crew x → r ≡ t (setting (m.meaning v.rule.now) v.characters d) x
