-- What a slip holds after a word is posted and after it is written. Assumes nothing.
use Rattle.std.proofs.Common.{max, ◌≡◌, ℕ, ◌-◌, ◌*◌, ◌^◌, ◌≤◌, true, ◌&&◌, ◌||◌, eqb, [], length, get_or, set, IfOk, Some, None, Ok, Err, Option, Result, sym, refl, ap, ◌∙◌, ap₂, ⊎_elim, mul-le-mul_left, arith, lit≤}
use lib.Bits.{bit_or}
use Rattle.std.proofs.Math.Bool.{or-true, or-false}
use Rattle.std.proofs.lemmas.Nat.Bits.{bit_at-lt, bit_at_or, bit_at-pow_same, bit_at-pow_other}
use Rattle.std.specs.Int.{bit_at}
use Rattle.std.proofs.lemmas.List.{get_or-set_same, get_or-set_other}
use Rattle.std.proofs.lemmas.Bool.{eq-eqb, ne_eqb, cases_eq}
use Rattle.wire.specs.declared.fault.FrameFault.{FrameFault}
use Rattle.wire.specs.declared.slip.Slip.{Slip}
use Rattle.wire.specs.declared.posted.Posted.{Posted}
use Rattle.wire.specs.declared.word.Word.{Word}
use Rattle.wire.specs.Frames.{carried}
use Rattle.wire.specs.Slips.{has, holds, word_of, words_of_kind, words_of, none_posted, with_word, OneMore, ReadsBack, frames_of, addressed, mapped}
use Rattle.wire.specs.Writes.{unless}
use Rattle.wire.specs.Limits.{max_kind, max_value, frame_max}
use Rattle.wire.proofs.Counting.{frames_weigh}
use Rattle.wire.proofs.FrameText.{Ranges, carried_ranges, ranges_carried, frame_max_length, word_reads}

-- a frame can carry the address of a word that it can carry
pub address_sound : (p : Posted) (w : Word) → w ≡ word_of p 1 0 → Ranges w → addressed p ≡ true
unfolding addressed
address_sound p w is r = ap carried (sym is) ∙ ranges_carried w r

-- the address alone decides
pub same_address : (p q : Posted) → q.group ≡ p.group → q.change ≡ p.change → q.sender ≡ p.sender → addressed p ≡ true → addressed q ≡ true
unfolding addressed
same_address p q g c s sound = ap carried (let e : word_of q 1 0 ≡ word_of p 1 0 = cc in e) ∙ sound

-- with a sound address, every word that a slip can hold can be carried
pub word_ranges : (p : Posted) (k v : ℕ) → addressed p ≡ true → 1 ≤ k → k ≤ max_kind → v ≤ max_value → Ranges (word_of p k v)
unfolding addressed
word_ranges p k v sound l h u =
    let r = carried_ranges (word_of p 1 0) sound in
    record { group_low = r.group_low; group_high = r.group_high; change_low = r.change_low; change_high = r.change_high; sender_high = r.sender_high; kind_low = l; kind_high = h; value_high = u }

pub reads_back : (p : Posted) → addressed p ≡ true → ReadsBack p
reads_back p sound k v l h u = word_reads (word_of p k v) (word_ranges p k v sound l h u)

pub frames_short : (p : Posted) → addressed p ≡ true → length (frames_of p) ≤ length (words_of p) * frame_max
frames_short p sound =
    let one = frame_max_length (word_of p 1 0) (word_ranges p 1 0 sound (lit≤ tt) (lit≤ tt) (lit≤ tt)) in
    rw (frames_weigh p) (mul-le-mul_left (length (words_of p)) one)

pub none_posted_none : (g c s : ℕ) → words_of (none_posted g c s) ≡ []
unfolding words_of words_of_kind
none_posted_none g c s = refl

-- a set with one value more
value_added : (m v u : ℕ) → has (bit_or m (2 ^ v)) u ≡ (has m u || eqb u v)
value_added m v u = ap (λ (x : ℕ). eqb x 1) (bit_at_or m (2 ^ v) u) ∙ ⊎_elim
    (λ e.
    let there : bit_at (2 ^ v) u ≡ 1 = ap (bit_at (2 ^ v)) e ∙ bit_at-pow_same v in
    let one : max (bit_at m u) (bit_at (2 ^ v) u) ≡ 1 = omega (arith, bit_at-lt m u) in
    ap (λ (x : ℕ). eqb x 1) one ∙ sym (ap (λ b. has m u || b) (eq-eqb u v e) ∙ or-true (has m u)))
    (λ ne.
    let same : max (bit_at m u) (bit_at (2 ^ v) u) ≡ bit_at m u = omega (arith, bit_at-pow_other v u ne) in
    ap (λ (x : ℕ). eqb x 1) same ∙ sym (ap (λ b. has m u || b) (ne_eqb u v ne) ∙ or-false (has m u)))
    (cases_eq u v)

-- with one word more on it, a slip holds that word and those it held
pub word_added : (p : Posted) (kind value : ℕ) → 1 ≤ kind → kind ≤ 5 → length p.kinds ≡ 5 → OneMore p (with_word p kind value) kind value
word_added p kind value low high five k v l h = ⊎_elim
    (λ e.
    let index : k - 1 ≡ kind - 1 = omega arith in
    let m = get_or p.kinds (kind - 1) 0 in
    ap (λ i. has (get_or (set p.kinds (kind - 1) (bit_or m (2 ^ value))) i 0) v) index
    ∙ ap (λ s. has s v) (get_or-set_same p.kinds (kind - 1) (bit_or m (2 ^ value)) 0 (omega arith))
    ∙ value_added m value v
    ∙ ap₂ ◌||◌ (ap (λ i. has (get_or p.kinds i 0) v) (sym index)) (sym (ap (λ b. b && eqb v value) (eq-eqb k kind e))))
    (λ ne.
    ap (λ s. has s v) (get_or-set_other p.kinds (kind - 1) (k - 1) (bit_or (get_or p.kinds (kind - 1) 0) (2 ^ value)) 0 (λ e. ne (omega arith)))
    ∙ sym (ap (λ b. holds p k v || (b && eqb v value)) (ne_eqb k kind ne) ∙ or-false (holds p k v)))
    (cases_eq k kind)

-- a slip that is made with no words holds none
pub made_empty : (r : Result Slip FrameFault) (o : Option FrameFault) (p : Posted) → mapped (λ s. s.posted) r ≡ unless o (Ok p) → words_of p ≡ [] → IfOk r (λ s. words_of s.posted ≡ [])
made_empty (Ok s) None p e none = let is : s.posted ≡ p = cc in ap words_of is ∙ none
made_empty (Ok s) (Some f) p e none = cc
made_empty (Err d) o p e none = tt
