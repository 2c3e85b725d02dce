-- The numbers of a group's terms, one by one. Assumes nothing.
use Rattle.std.proofs.Common.{◌≡◌, ℕ, zero, suc, ◌<◌, ◌≤◌, true, eqb, List, [], ◌∷◌, length, get_or, le_of_suc-le-suc, not-suc-le-zero, arith}
use Rattle.std.proofs.lemmas.Bool.{and_parts, eqb-true}
use Rattle.wire.specs.Fields.{is_within}
use Rattle.wire.specs.Limits.{max_id, max_value}
use Rattle.wire.proofs.FrameText.{within_parts}
use Rattle.group.specs.declared.terms.Terms.{Terms}
use Rattle.group.specs.Sound.{all_characters, sound_terms}
use Rattle.group.specs.Terms.{start_at}

pub character_at : (k : ℕ) (ss : List ℕ) (i : ℕ) → all_characters k ss ≡ true → i < length ss → (1 ≤ get_or ss i 0) × (get_or ss i 0 ≤ k)
character_at k [] i p l = absurd (not-suc-le-zero l)
character_at k (s ∷ ss) zero p l = within_parts 1 k s (and_parts (is_within 1 k s) _ p).0
character_at k (s ∷ ss) (suc i) p l = character_at k ss i (and_parts (is_within 1 k s) _ p).1 (le_of_suc-le-suc l)

pub record Numbers (T : Terms) : Type 0 where
  pub characters_low : 1 ≤ T.characters
  pub characters_high : T.characters ≤ 8
  pub group_low : 1 ≤ T.group
  pub group_high : T.group ≤ 65535
  pub change_low : 1 ≤ T.change
  pub change_high : T.change ≤ 65535
  pub sixteen : length T.starts ≡ 16
  pub start_fits : (i : ℕ) → i < 16 → (1 ≤ start_at T i) × (start_at T i ≤ T.characters)

pub numbers : (T : Terms) → Numbers T
unfolding sound_terms
numbers T =
    let k = and_parts (is_within 1 max_value T.characters) _ T.sound in
    let g = and_parts (is_within 1 max_id T.group) _ k.1 in
    let c = and_parts (is_within 1 max_id T.change) _ g.1 in
    let s = and_parts (eqb (length T.starts) 16) _ c.1 in
    let len : length T.starts ≡ 16 = eqb-true _ _ s.0 in
    record {
      characters_low = (within_parts 1 max_value T.characters k.0).0;
      characters_high = (within_parts 1 max_value T.characters k.0).1;
      group_low = (within_parts 1 max_id T.group g.0).0;
      group_high = (within_parts 1 max_id T.group g.0).1;
      change_low = (within_parts 1 max_id T.change c.0).0;
      change_high = (within_parts 1 max_id T.change c.0).1;
      sixteen = len;
      start_fits = λ i l. character_at T.characters T.starts i s.1 (omega (arith, l, len));
    }
