-- The front of a line that does not fit says all that the line does. Assumes nothing.
use Rattle.std.specs.Prelude.{◌≡◌, ℕ, List, [], ◌∷◌, ◌++◌, take}
use Rattle.lines.specs.Lines.{call_in}

-- a line that is cut once it has more bytes than a line can have writes the same call: none
unfoldable pub ReadsTheSame : Type 0
ReadsTheSame = (line : List ℕ) → call_in (take 122 line) ≡ call_in line

-- what is taken for a line that was begun, and that the bytes end: these alone where nothing was begun, else as many bytes of all as there is room for
abbrev pub EndsWith : List ℕ → List ℕ → List ℕ → Type 0
EndsWith [] end line = line ≡ end
EndsWith (b ∷ bs) end line = line ≡ take 122 ((b ∷ bs) ++ end)
