-- A word that a board takes has good numbers: its sender is of the crew, its kind is used, its value is one there is. Assumes nothing.
use Rattle.std.proofs.Common.{◌≡◌, ℕ, ◌<◌, ◌≤◌, ◌&&◌, eqb, ltb, List, Some, None, Ok, Err, Option, Result, sym, refl, ap, ◌∙◌, arith}
use Rattle.std.proofs.lemmas.Bool.{ltb-true, eqb-true}
use Rattle.quorum.specs.Rules.{Rule}
use Rattle.vote.specs.declared.News.{News}
use Rattle.wire.specs.declared.posted.Posted.{Posted}
use Rattle.wire.specs.declared.word.Word.{Word}
use Rattle.wire.specs.Fields.{is_within}
use Rattle.wire.specs.Frames.{word_in}
use Rattle.wire.specs.declared.fault.FrameFault.{FrameFault}
use Rattle.wire.proofs.Outcomes.{ok_then}
use Rattle.board.specs.declared.fault.BoardFault.{BoardFault}
use Rattle.board.specs.declared.fit.Fit.{Fit}
use Rattle.board.specs.declared.answer.Taken.{Taken}
use Rattle.board.specs.declared.record.Record.{Record}
use Rattle.board.specs.Shown.{Counts}
use Rattle.board.specs.Started.{told_of, slip_of, Accepts}
use Rattle.board.specs.Taking.{kinds_used, least_value, word_fault, port_fault, passed_up, unless, word_taken, vote_of}
use Rattle.wire.proofs.FrameText.{within_parts, word_is}
use Rattle.board.proofs.Good.{none_failed}

pub record GoodWord (R : Rule) (f : Fit) (w : Word) : Type 0 where
  pub crew_high : R.crew ≤ 16
  pub cover_low : 1 ≤ R.cover
  pub sender_low : w.sender < R.crew
  pub kind_low : 1 ≤ w.kind
  pub kind_high : w.kind ≤ kinds_used f.method f.depth
  pub value_high : w.value ≤ f.characters

ok_unless : {X : Type 0} (o : Option BoardFault) (r : Result X BoardFault) (x : X) → unless o r ≡ Ok x → (o ≡ None) × (r ≡ Ok x)
ok_unless None r x e = (refl, e)
ok_unless (Some f) r x e = absurd (cc)

passed_ok : (b : ℕ) (r : Result Word FrameFault) (w : Word) → passed_up b r ≡ Ok w → r ≡ Ok w
passed_ok b (Ok x) w e = cc
passed_ok b (Err f) w e = cc

module _ (R : Rule) (f : Fit) (port : ℕ) where
  port_good : port_fault R port ≡ None → (R.crew ≤ 16) × (1 ≤ R.cover) × (port < R.crew)
  unfolding port_fault
  port_good e =
      let crew = none_failed (is_within 1 16 R.crew) _ _ e in
      let cover = none_failed (is_within 2 3 R.cover) _ _ crew.1 in
      let at = none_failed (ltb port R.crew) _ _ cover.1 in
      ((within_parts 1 16 R.crew crew.0).1, omega (arith, (within_parts 2 3 R.cover cover.0).0), ltb-true port R.crew at.0)

  word_good : (w : Word) → word_fault f port w ≡ None → (w.sender ≡ port) × (1 ≤ w.kind) × (w.kind ≤ kinds_used f.method f.depth) × (w.value ≤ f.characters)
  unfolding word_fault
  word_good w e =
      let here = none_failed (eqb w.group f.group && eqb w.change f.change) _ _ e in
      let sender = none_failed (eqb w.sender port) _ _ here.1 in
      let kind = none_failed (is_within 1 (kinds_used f.method f.depth) w.kind) _ _ sender.1 in
      let value = none_failed (is_within (least_value f.method w.kind) f.characters w.value) _ _ kind.1 in (
        eqb-true w.sender port sender.0,
        (within_parts 1 (kinds_used f.method f.depth) w.kind kind.0).0,
        (within_parts 1 (kinds_used f.method f.depth) w.kind kind.0).1,
        (within_parts (least_value f.method w.kind) f.characters w.value value.0).1,
      )

  pub good_word : (xs : List ℕ) (w : Word) → word_taken R f port xs ≡ Ok w → GoodWord R f w
  unfolding word_taken
  good_word xs w e =
      let p = ok_unless (port_fault R port) _ w e in
      let t = ok_then (passed_up f.board (word_in xs)) (λ u. unless (word_fault f port u) (Ok u)) w p.1 in
      let u = t.0 in
      let q = ok_unless (word_fault f port u) (Ok u) w t.2 in
      let is : u ≡ w = cc (q.1) in
      let ports = port_good p.0 in
      let words = word_good w (ap (word_fault f port) (sym is) ∙ q.0) in
      record { crew_high = ports.0; cover_low = ports.1; sender_low = omega (arith, ports.2, words.0); kind_low = words.1; kind_high = words.2; value_high = words.3 }

  -- the word that is taken is the one that the bytes carry, and its sender is the port
  pub taken_is : (xs : List ℕ) (w : Word) → word_taken R f port xs ≡ Ok w → (word_in xs ≡ Ok w) × (w.sender ≡ port)
  unfolding word_taken
  taken_is xs w e =
      let p = ok_unless (port_fault R port) _ w e in
      let t = ok_then (passed_up f.board (word_in xs)) (λ u. unless (word_fault f port u) (Ok u)) w p.1 in
      let u = t.0 in
      let q = ok_unless (word_fault f port u) (Ok u) w t.2 in
      let is : u ≡ w = cc (q.1) in
      (passed_ok f.board (word_in xs) w (t.1 ∙ ap Ok is), (word_good w (ap (word_fault f port) (sym is) ∙ q.0)).0)

  -- a word that is taken and counted is accepted
  pub accepted : (xs : List ℕ) (o p : Record) (told : Taken) (slip : Posted) (w : Word) (r : Option News) → word_taken R f port xs ≡ Ok w → Counts R f (vote_of w) o p r
      → told ≡ told_of r → slip ≡ slip_of f r → Accepts R f port xs o p told slip
  accepted xs o p told slip w r taken counts tells slips = (
    w,
    taken,
    λ h shown. let k = counts h shown in record { shows = k.0; tells = tells ∙ ap told_of k.1; slips = slips ∙ ap (slip_of f) k.1 },
    (word_is xs w (taken_is xs w taken).0).1,
  )
