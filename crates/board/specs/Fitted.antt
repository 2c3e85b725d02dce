-- What a fitted board keeps of its settings. Assumes nothing.
use Rattle.std.specs.Prelude.{◌≡◌}
use Rattle.vote.specs.Setting.{grades}
use Rattle.board.specs.declared.fit.Fit.{Fit}
use Rattle.board.specs.declared.settings.Settings.{Settings}

-- the fit has the numbers of the settings
pub record Keeps (s : Settings) (f : Fit) : Type 0 where
  pub method : f.method ≡ s.method
  pub depth : grades f.depth ≡ s.depth
  pub characters : f.characters ≡ s.characters
  pub group : f.group ≡ s.group
  pub change : f.change ≡ s.change
  pub board : f.board ≡ s.board
  pub start : f.start ≡ s.start
