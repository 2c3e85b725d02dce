-- A fitted board's address is one that frames can carry, so that it always gets its slip. Assumes nothing.
use Rattle.std.proofs.Common.{◌≡◌, ◌≤◌, true, None, Ok, Err, Result, sym, ap, ◌∙◌, arith, lit≤}
use Rattle.std.proofs.lemmas.Bool.{and_parts}
use Rattle.vote.specs.declared.News.{News}
use Rattle.wire.specs.declared.fault.FrameFault.{FrameFault}
use Rattle.wire.specs.declared.posted.Posted.{Posted}
use Rattle.wire.specs.declared.slip.Slip.{Slip}
use Rattle.wire.specs.Fields.{is_within}
use Rattle.wire.specs.Limits.{max_id, max_sender, max_value}
use Rattle.wire.specs.Slips.{word_of, mapped}
use Rattle.wire.specs.Writes.{range_fault, unless}
use Rattle.wire.proofs.Ranging.{ranges_none}
use Rattle.board.specs.declared.fit.Fit.{Fit}
use Rattle.board.specs.Sound.{sound_fit}
use Rattle.board.specs.Started.{posted_of}
use Rattle.wire.proofs.FrameText.{within_parts}

abbrev pub Sound : Fit → Type 0
Sound f = sound_fit f.characters f.group f.change f.board f.start ≡ true

-- the numbers of a sound fit, one by one
pub record Numbers (f : Fit) : Type 0 where
  pub characters_high : f.characters ≤ 8
  pub group_low : 1 ≤ f.group
  pub group_high : f.group ≤ 65535
  pub change_low : 1 ≤ f.change
  pub change_high : f.change ≤ 65535
  pub board_high : f.board ≤ 15
  pub start_high : f.start ≤ f.characters

pub numbers : (f : Fit) → Sound f → Numbers f
numbers f sound =
    let k = and_parts (is_within 1 max_value f.characters) _ sound in
    let g = and_parts (is_within 1 max_id f.group) _ k.1 in
    let c = and_parts (is_within 1 max_id f.change) _ g.1 in
    let b = and_parts (is_within 0 max_sender f.board) _ c.1 in
    record {
      characters_high = (within_parts 1 max_value f.characters k.0).1;
      group_low = (within_parts 1 max_id f.group g.0).0;
      group_high = (within_parts 1 max_id f.group g.0).1;
      change_low = (within_parts 1 max_id f.change c.0).0;
      change_high = (within_parts 1 max_id f.change c.0).1;
      board_high = (within_parts 0 max_sender f.board b.0).1;
      start_high = (within_parts 1 f.characters f.start b.1).1;
    }

module _ (f : Fit) (sound : Sound f) where
  address_good : (n : News) → range_fault (word_of (posted_of f n) 1 0) ≡ None
  address_good n =
      let m = numbers f sound in
      ranges_none (word_of (posted_of f n) 1 0) record {
        group_low = m.group_low;
        group_high = m.group_high;
        change_low = m.change_low;
        change_high = m.change_high;
        sender_high = m.board_high;
        kind_low = lit≤ tt;
        kind_high = lit≤ tt;
        value_high = lit≤ tt;
      }

  pub characters_low : f.characters ≤ 8
  characters_low = (numbers f sound).characters_high

  pub start_below : f.start ≤ 8
  start_below = let m = numbers f sound in omega (arith, m.characters_high, m.start_high)

  -- so the slip is never refused
  pub never_refused : (n : News) (r : Result Slip FrameFault) (e : FrameFault) → mapped (λ s. s.posted) r ≡ unless (range_fault (word_of (posted_of f n) 1 0)) (Ok (posted_of f n)) → r ≡ Err e → ⊥
  never_refused n r e made err =
      let is : ◌≡◌ {A = Result Posted FrameFault} (Err e) (Ok (posted_of f n)) =
      ap (λ (x : Result Slip FrameFault). mapped (λ s. s.posted) x) (sym err) ∙ made ∙ ap (λ o. unless o (Ok (posted_of f n))) (address_good n) in cc
