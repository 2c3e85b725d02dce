-- What stands against an opening, by rising number, and what an accepted one settles. Assumes nothing.
use Rattle.std.specs.Prelude.{◌≡◌, ℕ, ◌<◌, ◌≤◌, cond, not, ◌&&◌, List, [], ◌∷◌, take, Option, nat_le, nat_lt, slice_index}
use Rattle.quorum.specs.Rules.{Rule}
use Rattle.vote.specs.Setting.{grades}
use Rattle.wire.specs.Fields.{is_within}
use Rattle.board.specs.declared.fault.BoardFault.TheVariants.{Crew, Characters, Depth, Cover, EchoCover, Address, Start}
use Rattle.board.specs.Fitting.{echo_under_two}
use Rattle.group.specs.declared.fault.GroupFault.{GroupFault}
use Rattle.group.specs.declared.fault.GroupFault.TheVariants.{Opening as Against, Family}
use Rattle.group.specs.declared.opening.Opening.{Opening}
use Rattle.group.specs.declared.terms.Terms.{Terms}
use Rattle.group.specs.Calls.{first_failed}
use Rattle.group.specs.Sound.{all_characters}
use Rattle.group.specs.Terms.{start_at}

unfoldable pub opening_fault : Rule → Opening → Option GroupFault
opening_fault R o = first_failed (
    (is_within 1 16 R.crew, Against Crew)
    ∷ (is_within 1 8 o.characters, Against Characters)
    ∷ (is_within 1 2 o.depth, Against Depth)
    ∷ (is_within 2 3 R.cover, Against Cover)
    ∷ (not (echo_under_two o.method R.cover), Against EchoCover)
    ∷ (is_within 1 65535 o.group && is_within 1 65535 o.change, Against Address)
    ∷ (all_characters o.characters (take R.crew o.starts), Against Start)
    ∷ (R.fails o.listed, Family)
    ∷ [])

-- the terms have the numbers of the opening
pub record Settles (R : Rule) (o : Opening) (T : Terms) : Type 0 where
  pub method : T.method ≡ o.method
  pub depth : grades T.depth ≡ o.depth
  pub characters : T.characters ≡ o.characters
  pub group : T.group ≡ o.group
  pub change : T.change ≡ o.change
  pub listed : T.listed ≡ o.listed
  pub starts : (i : ℕ) → i < R.crew → start_at T i ≡ slice_index o.starts i

-- board i's starting character as it is kept: 1 stands in beyond the crew, and no number is kept that is too large for a character anyway
abbrev pub kept_start : ℕ → List ℕ → ℕ → ℕ
kept_start n ss i = cond (nat_lt i n) (cond (nat_le (slice_index ss i) 255) (slice_index ss i) 255) 1

-- the numbers of an opening that nothing stands against, for a crew of n
pub record GoodOpening (n : ℕ) (o : Opening) : Type 0 where
  pub crew_high : n ≤ 16
  pub characters_low : 1 ≤ o.characters
  pub characters_high : o.characters ≤ 8
  pub depth_low : 1 ≤ o.depth
  pub depth_high : o.depth ≤ 2
  pub group_low : 1 ≤ o.group
  pub group_high : o.group ≤ 65535
  pub change_low : 1 ≤ o.change
  pub change_high : o.change ≤ 65535
  pub starts_fit : (i : ℕ) → i < n → (1 ≤ slice_index o.starts i) × (slice_index o.starts i ≤ o.characters)
