-- Which layer gives a refusal, by its number. Assumes nothing.
use Rattle.std.specs.Prelude.{cond, ◌&&◌, ◌||◌, ℕ, leb, eqb}
use Rattle.refusal.specs.declared.Layer.{Layer}
use Rattle.refusal.specs.declared.Layer.TheVariants.{Frame, Board, Group}

-- the frame gives 11 to 15 and 20, the group 21 to 29, and a board all others
abbrev pub layer_of : ℕ → Layer
layer_of n =
    cond ((leb 11 n && leb n 15) || eqb n 20) Frame
    (cond (leb 21 n && leb n 29) Group Board)
