-- Which call a line of a session writes, for any bytes. Assumes nothing.
use Rattle.std.specs.Prelude.{ℕ, ◌+◌, ◌-◌, Bool, cond, ◌&&◌, ◌||◌, List, length, take, drop, Some, None, Option, ◌==◌, nat_le, nat_lt, slice_index}
use Rattle.vote.specs.declared.Method.{Method}
use Rattle.vote.specs.Conversions.{method_of}
use Rattle.numerals.specs.Numerals.{comma, numbers_in}
use Rattle.numerals.specs.Parts.{field_in}
use Rattle.lines.specs.Calls.{Failing, by_count, by_sets, Opening, Call, unreadable, opens, starts_board, carries, forges}

abbrev pub line_feed : ℕ
line_feed = 10

-- the letters of the calls: o, g, s, c, f
abbrev pub open_by_count_letter : ℕ
open_by_count_letter = 111

abbrev pub open_by_sets_letter : ℕ
open_by_sets_letter = 103

abbrev pub start_letter : ℕ
start_letter = 115

abbrev pub carry_letter : ℕ
carry_letter = 99

abbrev pub forge_letter : ℕ
forge_letter = 102

-- the most bytes that a line has, with its line feed
abbrev pub max_line : ℕ
max_line = 121

-- the call that is made of what was read, if it was
abbrev pub readable : {A : Type 0} → Option A → (A → Call) → Call
readable None f = unreadable
readable (Some x) f = f x

-- a letter, and behind it a comma
abbrev pub lettered : List ℕ → Bool
lettered bs = nat_lt 1 (length bs) && slice_index bs 1 == comma

-- the five numbers that lead are depth, crew, what the boards fail by, characters, bad
abbrev pub opening_with : Method → List ℕ → Failing → List ℕ → Opening
opening_with m vs failing starts =
    record { method = m; depth = slice_index vs 0; crew = slice_index vs 1; failing = failing; characters = slice_index vs 3; bad = slice_index vs 4; starts = starts }

-- the third number is f; just one starting character for each board of the crew follows
abbrev pub open_by_count : Method → List ℕ → Call
open_by_count m vs = cond (length vs == 5 + slice_index vs 1) (opens (opening_with m vs (by_count (slice_index vs 2)) (drop 5 vs))) unreadable

-- the third number says how many sets follow; then just one starting character for each board of the crew
abbrev pub open_by_sets : Method → List ℕ → Call
open_by_sets m vs =
    cond (length vs == 5 + slice_index vs 2 + slice_index vs 1) (opens (opening_with m vs (by_sets (take (slice_index vs 2) (drop 5 vs))) (drop (slice_index vs 2) (drop 5 vs)))) unreadable

-- a method's letter, a comma, numbers
abbrev pub opened_in : (Method → List ℕ → Call) → List ℕ → Call
opened_in call bs = cond (lettered bs) (readable (method_of (slice_index bs 0)) (λ m. readable (numbers_in (drop 2 bs)) (call m))) unreadable

-- just one number: the board
abbrev pub start_with : List ℕ → Call
start_with vs = cond (length vs == 1) (starts_board (slice_index vs 0)) unreadable

-- just four numbers: to, from, kind, value
abbrev pub carry_with : List ℕ → Call
carry_with vs = cond (length vs == 4) (carries (slice_index vs 0) (slice_index vs 1) (slice_index vs 2) (slice_index vs 3)) unreadable

-- two numbers, each with a comma behind it: to, from; all that follows is forged
abbrev pub forged_in : List ℕ → Call
forged_in bs = readable (field_in bs) (λ to. readable (field_in to.1) (λ from. forges to.0 from.0 from.1))

-- a letter, a comma, a line feed at the end, and not too many bytes
abbrev pub whole : List ℕ → Bool
whole line = lettered line && nat_lt 2 (length line) && nat_le (length line) max_line && slice_index line (length line - 1) == line_feed

-- what stands between the letter's comma and the line feed
abbrev pub body : List ℕ → List ℕ
body line = take (length line - 1 - 2) (drop 2 line)

-- whether the line has the letter of an opening, and is whole
abbrev pub begins_opening : List ℕ → Bool
begins_opening line = whole line && (slice_index line 0 == open_by_count_letter || slice_index line 0 == open_by_sets_letter)

-- by the letter, what a line that opens a group writes
abbrev pub opening_by : ℕ → List ℕ → Call
opening_by letter line =
    cond (letter == open_by_count_letter) (opened_in open_by_count (body line))
    (cond (letter == open_by_sets_letter) (opened_in open_by_sets (body line)) unreadable)

-- the call that a line writes, if it opens a group
unfoldable pub opening_in : List ℕ → Call
opening_in line = cond (whole line) (opening_by (slice_index line 0) line) unreadable

-- by the letter; the line feed belongs to what is forged, and a line with another letter opens a group or cannot be read
abbrev pub call_by : ℕ → List ℕ → Call
call_by letter line =
    cond (letter == start_letter) (readable (numbers_in (body line)) start_with)
    (cond (letter == carry_letter) (readable (numbers_in (body line)) carry_with)
    (cond (letter == forge_letter) (forged_in (drop 2 line)) (opening_by letter line)))

unfoldable pub call_in : List ℕ → Call
call_in line = cond (whole line) (call_by (slice_index line 0) line) unreadable
