-- A line with more bytes than a line can have writes no call, and neither does its front. Assumes nothing.
use Rattle.std.proofs.Common.{◌≡◌, ℕ, ◌≤◌, ◌-◌, Bool, true, false, cond, ◌&&◌, List, length, take, sym, refl, ap, ◌∙◌, inl, inr, arith, length-take}
use Rattle.std.proofs.lemmas.Bool.{cases_lt, lt-leb}
use Rattle.std.proofs.lemmas.List.{take_all}
use Rattle.std.specs.Prelude.{◌==◌, nat_lt, nat_le, slice_index}
use Rattle.lines.specs.Calls.{unreadable}
use Rattle.session.specs.Gathering.{ReadsTheSame}
use Rattle.lines.specs.Lines.{lettered, line_feed, max_line, call_by, call_in}

third_fails : (a b d : Bool) → (a && b && false && d) ≡ false
third_fails true true d = refl
third_fails true false d = refl
third_fails false b d = refl

too_long : (xs : List ℕ) → 122 ≤ length xs → call_in xs ≡ unreadable
unfolding call_in
too_long xs h =
    let long : nat_le (length xs) max_line ≡ false = lt-leb (length xs) max_line (omega (arith, h)) in
    ap (λ (b : Bool). cond (lettered xs && nat_lt 2 (length xs) && b && slice_index xs (length xs - 1) == line_feed) (call_by (slice_index xs 0) xs) unreadable) long
    ∙ ap (λ (b : Bool). cond b (call_by (slice_index xs 0) xs) unreadable) (third_fails (lettered xs) (nat_lt 2 (length xs)) (slice_index xs (length xs - 1) == line_feed))

pub cut : ReadsTheSame
unfolding ReadsTheSame
cut line =
    elim (cases_lt 122 (length line)) [
      | inl l ↦ too_long (take 122 line) (omega (arith, l, length-take 122 line)) ∙ sym (too_long line (omega (arith, l)))
      | inr h ↦ ap call_in (take_all 122 line h)
    ]
