-- What the terms of a group mean: the setting and the method of its vote, and the settings of each board. Assumes nothing.
use Rattle.std.specs.Prelude.{ℕ, Bool, ◌&&◌, slice_index}
use Rattle.quorum.specs.Sets.{member}
use Rattle.quorum.specs.Rules.{Rule}
use Rattle.vote.specs.Setting.{Setting, Protocol}
use Rattle.agreement.specs.Methods.{method_of}
use Rattle.board.specs.declared.fit.Fit.{Fit}
use Rattle.group.specs.declared.terms.Terms.{Terms}

abbrev pub setting_in : Rule → Terms → Setting
setting_in R T = record { rule = R; characters = T.characters; depth = T.depth }

abbrev pub method_in : Rule → Terms → Protocol
method_in R T = method_of T.method (setting_in R T)

-- the starting character of board i
abbrev pub start_at : Terms → ℕ → ℕ
start_at T i = slice_index T.starts i

-- the settings of board i
abbrev pub fit_at : Terms → ℕ → Fit
fit_at T i = record {
  method = T.method;
  depth = T.depth;
  characters = T.characters;
  group = T.group;
  change = T.change;
  board = i;
  start = start_at T i;
}

-- board i is listed, and the method lets listed boards say anything
abbrev pub lies : Rule → Terms → ℕ → Bool
lies R T i = (method_in R T).may_lie && member i T.listed
