-- Slips: the words that one board has posted of one change, in order, and the frames that are written of them. Assumes nothing.
use Rattle.std.specs.Prelude.{◌≡◌, ℕ, zero, suc, ◌-◌, ◌/◌, ◌%◌, ◌^◌, ◌≤◌, Bool, cond, ◌&&◌, ◌||◌, List, [], ◌∷◌, ◌++◌, replicate, Ok, Err, Result, ◌==◌, bit_or, slice_index, slice_set}
use Rattle.std.specs.List.{flat_map}
use Rattle.wire.specs.declared.fault.FrameFault.{FrameFault}
use Rattle.wire.specs.declared.posted.Posted.{Posted}
use Rattle.wire.specs.declared.word.Word.{Word}
use Rattle.wire.specs.Frames.{frame_of, word_in, carried}
use Rattle.wire.specs.Limits.{max_kind, max_value}
use Rattle.wire.specs.Writes.{range_fault, unless}

-- whether a set of values, to which value v adds 2 to the power v, has a value
abbrev pub has : ℕ → ℕ → Bool
has s v = s / 2 ^ v % 2 == 1

-- what f gives for 0, 1, .. below n, one after the other
abbrev pub in_order : {A : Type 0} → (ℕ → List A) → ℕ → List A
in_order f zero = []
in_order f (suc n) = in_order f n ++ f n

-- the word of this kind and value that the board posts of the change
abbrev pub word_of : Posted → ℕ → ℕ → Word
word_of p k v = record { group = p.group; change = p.change; sender = p.sender; kind = k; value = v }

-- whether the word of this kind and value is posted
abbrev pub holds : Posted → ℕ → ℕ → Bool
holds p k v = has (slice_index p.kinds (k - 1)) v

-- that word, or none
abbrev pub if_held : Posted → ℕ → ℕ → List Word
if_held p k v = cond (holds p k v) (word_of p k v ∷ []) []

-- the words of one kind, by value
unfoldable pub words_of_kind : Posted → ℕ → List Word
words_of_kind p k = in_order (if_held p k) (suc max_value)

-- the words, by kind and then value
unfoldable pub words_of : Posted → List Word
words_of p = in_order (λ j. words_of_kind p (suc j)) max_kind

-- their frames, one after the other
unfoldable pub frames_of : Posted → List ℕ
frames_of p = flat_map frame_of (words_of p)

-- nothing posted yet
abbrev pub none_posted : ℕ → ℕ → ℕ → Posted
none_posted g c s = record { group = g; change = c; sender = s; kinds = replicate max_kind 0 }

abbrev pub emptied : Posted → Posted
emptied p = none_posted p.group p.change p.sender

-- the word of this kind and value posted too
abbrev pub with_word : Posted → ℕ → ℕ → Posted
with_word p k v = record { group = p.group; change = p.change; sender = p.sender; kinds = slice_set p.kinds (k - 1) (bit_or (slice_index p.kinds (k - 1)) (2 ^ v)) }

-- q holds the words of p and the one of this kind and value, and no other
abbrev pub OneMore : Posted → Posted → ℕ → ℕ → Type 0
OneMore p q kind value = (k v : ℕ) → 1 ≤ k → k ≤ max_kind → holds q k v ≡ (holds p k v || (k == kind && v == value))

-- whether a frame can carry the group, the change and the sender
unfoldable pub addressed : Posted → Bool
addressed p = carried (word_of p 1 0)

-- the answer of a call that makes an empty slip
abbrev pub slip_made : ℕ → ℕ → ℕ → Result Posted FrameFault
slip_made g c s = unless (range_fault (word_of (none_posted g c s) 1 0)) (Ok (none_posted g c s))

-- an answer, by a part of what it holds
abbrev pub mapped_both : {X Y D E : Type 0} → (X → Y) → (D → E) → Result X D → Result Y E
mapped_both f g (Ok x) = Ok (f x)
mapped_both f g (Err d) = Err (g d)

abbrev pub mapped : {X Y E : Type 0} → (X → Y) → Result X E → Result Y E
mapped f r = mapped_both f (λ e. e) r

-- every word that a slip can hold has a frame that reads back as it
abbrev pub ReadsBack : Posted → Type 0
ReadsBack p = (k v : ℕ) → 1 ≤ k → k ≤ max_kind → v ≤ max_value → word_in (frame_of (word_of p k v)) ≡ Ok (word_of p k v)
