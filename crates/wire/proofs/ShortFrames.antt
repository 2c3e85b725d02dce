-- The frame of a word whose numbers are one digit each: ten bytes. Assumes nothing.
use Rattle.std.proofs.Common.{◌≡◌, ℕ, ◌+◌, ◌-◌, ◌<◌, ◌≤◌, List, [], ◌∷◌, length, get_or, Ok, None, sym, ap, ◌∙◌, arith}
use Rattle.std.proofs.lemmas.Fmt.{decimal_digit}
use Rattle.std.proofs.lemmas.Slice.Eq.{text_from_reads}
use Rattle.wire.specs.declared.word.Word.{Word}
use Rattle.wire.specs.Limits.{max_kind, max_value, comma, line_feed}
use Rattle.wire.specs.Frames.{frame_of, word_in}
use Rattle.wire.specs.Writes.{range_fault}
use Rattle.wire.proofs.FrameText.{Ranges, word_reads}
use Rattle.wire.proofs.Ranging.{ranges_none}

-- five digits, each with the byte that ends its field
abbrev pub short_bytes : Word → List ℕ
short_bytes w = (48 + w.group) ∷ comma ∷ (48 + w.change) ∷ comma ∷ (48 + w.sender) ∷ comma ∷ (48 + w.kind) ∷ comma ∷ (48 + w.value) ∷ line_feed ∷ []

-- a word that a frame can carry, with such numbers
module _ (w : Word) (group_low : 1 ≤ w.group) (group : w.group < 10) (change_low : 1 ≤ w.change) (change : w.change < 10) (sender : w.sender < 10) (kind_low : 1 ≤ w.kind) (kind : w.kind ≤ max_kind) (value : w.value ≤ max_value) where
  short_ranges : Ranges w
  short_ranges = record {
    group_low = group_low;
    group_high = omega arith;
    change_low = change_low;
    change_high = omega arith;
    sender_high = omega arith;
    kind_low = kind_low;
    kind_high = kind;
    value_high = value;
  }

  pub short_in_range : range_fault w ≡ None
  short_in_range = ranges_none w short_ranges

  pub short_frame_is : frame_of w ≡ short_bytes w
  unfolding frame_of
  short_frame_is =
      rw (decimal_digit w.group group, decimal_digit w.change change, decimal_digit w.sender sender, decimal_digit w.kind (omega arith), decimal_digit w.value (omega arith))

  short_read : word_in (short_bytes w) ≡ Ok w
  short_read = ap word_in (sym short_frame_is) ∙ word_reads w short_ranges

-- ten bytes, five of which are the digits of a word that a frame can carry, are read as that word
module _ (xs : List ℕ) where
  abbrev pub digit_at : ℕ → ℕ
  digit_at i = get_or xs i 0 - 48

  pub short_reads :
      length xs ≡ 10
      → 49 ≤ get_or xs 0 0 → get_or xs 0 0 ≤ 57 → get_or xs 1 0 ≡ comma
      → 49 ≤ get_or xs 2 0 → get_or xs 2 0 ≤ 57 → get_or xs 3 0 ≡ comma
      → 48 ≤ get_or xs 4 0 → get_or xs 4 0 ≤ 57 → get_or xs 5 0 ≡ comma
      → 49 ≤ get_or xs 6 0 → get_or xs 6 0 ≤ 48 + max_kind → get_or xs 7 0 ≡ comma
      → 48 ≤ get_or xs 8 0 → get_or xs 8 0 ≤ 48 + max_value → get_or xs 9 0 ≡ line_feed
      → word_in xs ≡ Ok (record { group = digit_at 0; change = digit_at 2; sender = digit_at 4; kind = digit_at 6; value = digit_at 8 })
  short_reads long g0 g1 a c0 c1 b s0 s1 d k0 k1 e v0 v1 f =
      let w : Word = record { group = digit_at 0; change = digit_at 2; sender = digit_at 4; kind = digit_at 6; value = digit_at 8 } in
      let text : xs ≡ short_bytes w = text_from_reads xs (short_bytes w) long (omega arith, (a, (omega arith, (b, (omega arith, (d, (omega arith, (e, (omega arith, (f, tt)))))))))) in
      ap word_in text ∙ short_read w (omega arith) (omega arith) (omega arith) (omega arith) (omega arith) (omega arith) (omega arith) (omega arith)
