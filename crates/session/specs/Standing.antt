-- What the lines of a session have led to: no group, or the opening of the one that is open and the calls on it since. Assumes nothing.
use Rattle.std.specs.Prelude.{ℕ, cond, List, [], ◌∷◌}
use Rattle.vote.specs.Search.{given}
use Rattle.lines.specs.Calls as lines
use Rattle.lines.specs.Calls.{Opening, unreadable, opens, starts_board, carries, forges}
use Rattle.lines.specs.Lines.{call_in}
use Rattle.group.specs.Calls.{Call, starting, carrying, forging}
use Rattle.session.specs.Opening.{opening_fault}

-- the newest call first, refused ones too
pub data Standing : Type 0 where
  nothing_open : Standing
  stands_open : Opening → List Call → Standing

abbrev pub called_on : Standing → Call → Standing
called_on nothing_open x = nothing_open
called_on (stands_open o xs) x = stands_open o (x ∷ xs)

-- a new opening replaces the group, unless something stands against it
abbrev pub stands_with : Standing → lines.Call → Standing
stands_with s unreadable = s
stands_with s (opens o) = cond (given (opening_fault o)) s (stands_open o [])
stands_with s (starts_board i) = called_on s (starting i)
stands_with s (carries to from kind value) = called_on s (carrying to from kind value)
stands_with s (forges to from bytes) = called_on s (forging to from bytes)

-- after these lines, the newest first
unfoldable pub stands_after : List (List ℕ) → Standing
stands_after [] = nothing_open
stands_after (line ∷ ls) = stands_with (stands_after ls) (call_in line)
