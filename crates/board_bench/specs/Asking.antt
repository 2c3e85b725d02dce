-- What the first line asks for, and the lowest number that stands against it. Assumes nothing.
use Rattle.std.specs.Prelude.{ℕ, cond, ◌&&◌, List, length, drop, Some, None, Option, ◌==◌, nat_lt, slice_index}
use Rattle.vote.specs.declared.Method.{Method}
use Rattle.vote.specs.Conversions.{method_of}
use Rattle.quorum.specs.Counting.{count_rule}
use Rattle.quorum.specs.Faults as rule
use Rattle.quorum.specs.declared.fault.RuleFault.{RuleFault}
use Rattle.board.specs.declared.fault.BoardFault.{BoardFault}
use Rattle.board.specs.Fitting.{settings_fault}
use Rattle.board.specs.Faults as board
use Rattle.board_bench.specs.declared.asked.Asked.{Asked}
use Rattle.numerals.specs.Numerals.{comma, and_then, numbers_in}

-- nine numbers: depth, crew, cover, f, characters, group, change, board, start
abbrev pub asked_with : List ℕ → Method → Option Asked
asked_with vs m = cond (length vs == 9)
    (Some (record {
      crew = slice_index vs 1;
      cover = slice_index vs 2;
      f = slice_index vs 3;
      settings = record { method = m; depth = slice_index vs 0; characters = slice_index vs 4; group = slice_index vs 5; change = slice_index vs 6; board = slice_index vs 7; start = slice_index vs 8 };
    }))
    None

abbrev pub asked_by : ℕ → List ℕ → Option Asked
asked_by letter vs = and_then (method_of letter) (asked_with vs)

-- the first line: a letter, a comma, numbers
abbrev pub asked_in : List ℕ → Option Asked
asked_in line = cond (nat_lt 1 (length line) && slice_index line 1 == comma) (and_then (numbers_in (drop 2 line)) (asked_by (slice_index line 0))) None

-- the lower of two numbers, as far as they are there
abbrev pub lower : Option ℕ → Option ℕ → Option ℕ
lower None n = n
lower (Some m) None = Some m
lower (Some m) (Some n) = Some (cond (nat_lt n m) n m)

abbrev pub rule_number : Option RuleFault → Option ℕ
rule_number None = None
rule_number (Some e) = Some (rule.number_of e)

abbrev pub settings_number : Option BoardFault → Option ℕ
settings_number None = None
settings_number (Some e) = Some (board.refusal_of e).number

-- the lowest number that stands against the rule or the settings
abbrev pub lowest_of : Asked → Option ℕ
lowest_of a = lower (rule_number (rule.count_fault a.crew a.cover a.f)) (settings_number (settings_fault (count_rule a.crew a.cover a.f) a.settings))
