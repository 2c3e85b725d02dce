-- A record of either method shows what the board has counted, counting a vote on it does too, and what it tells is what the method says. Assumes nothing.
use Rattle.std.proofs.Common.{◌≡◌, ℕ, ◌≤◌, Bool, List, Option, sym, refl, ap, ◌∙◌}
use Rattle.quorum.specs.Rules.{Rule}
use Rattle.vote.specs.declared.Method.{Method}
use Rattle.vote.specs.declared.Method.TheVariants.{Plain, Echo}
use Rattle.vote.specs.declared.Decision.{Decision}
use Rattle.vote.specs.declared.News.{News}
use Rattle.vote.specs.Setting.{Setting}
use Rattle.agreement.specs.Plain as plainly
use Rattle.agreement.specs.Echo as echoing
use Rattle.vote.specs.declared.Vote.{Vote}
use Rattle.heard.specs.Repeats as echo_counts
use Rattle.echo_board.specs.Records as echo_board
use Rattle.echo_board.specs.declared.board.EchoRecord.{EchoRecord}
use Rattle.plain_board.specs.Shown as plain_board
use Rattle.plain_board.specs.Step as plain_counts
use Rattle.plain_board.specs.declared.record.PlainRecord.{PlainRecord}
use Rattle.board.specs.declared.fit.Fit.{Fit}
use Rattle.board.specs.declared.record.Record.{Record}
use Rattle.board.specs.declared.record.Record.TheVariants.{Gathers, Echoes}
use Rattle.board.specs.Shown.{setting_of, with_vote, record_by, record_of, answer_by, answer_of, Counts, method_of, Decides}

module _ (R : Rule) (f : Fit) where
  pub plain_shows : (h : List Vote) → f.method ≡ Plain → record_of R f h ≡ Gathers (plain_board.record_of (setting_of R f) h)
  unfolding record_of
  plain_shows h e = ap (λ m. record_by m (setting_of R f) f.start h) e

  pub echo_shows : (h : List Vote) → f.method ≡ Echo → record_of R f h ≡ Echoes (echo_board.record_of (setting_of R f) f.start h)
  unfolding record_of
  echo_shows h e = ap (λ m. record_by m (setting_of R f) f.start h) e

  -- only a record of the fit's method shows a history, and what it holds does
  plain_by : (m : Method) (h : List Vote) (p : PlainRecord) → Gathers p ≡ record_by m (setting_of R f) f.start h → (m ≡ Plain) × (p ≡ plain_board.record_of (setting_of R f) h)
  plain_by Plain h p e = (refl, (cc))
  plain_by Echo h p e = absurd (cc)

  echo_by : (m : Method) (h : List Vote) (p : EchoRecord) → Echoes p ≡ record_by m (setting_of R f) f.start h → (m ≡ Echo) × (p ≡ echo_board.record_of (setting_of R f) f.start h)
  echo_by Plain h p e = absurd (cc)
  echo_by Echo h p e = (refl, (cc))

  pub plain_shown : (h : List Vote) (o : Record) (p : PlainRecord) → o ≡ Gathers p → o ≡ record_of R f h → (f.method ≡ Plain) × (p ≡ plain_board.record_of (setting_of R f) h)
  unfolding record_of
  plain_shown h o p at shown = plain_by f.method h p (sym at ∙ shown)

  pub echo_shown : (h : List Vote) (o : Record) (p : EchoRecord) → o ≡ Echoes p → o ≡ record_of R f h → (f.method ≡ Echo) × (p ≡ echo_board.record_of (setting_of R f) f.start h)
  unfolding record_of
  echo_shown h o p at shown = echo_by f.method h p (sym at ∙ shown)

  pub step_plain : (w : Vote) (o : Record) (p q : PlainRecord) (r : Option News) → o ≡ Gathers p → plain_counts.Counts (setting_of R f) w p q r → Counts R f w o (Gathers q) r
  unfolding plain_counts.Counts plain_counts.taken plain_counts.answer_of answer_of
  step_plain w o p q r at counts h shown =
      let k = plain_shown h o p at shown in
      let t = counts h k.1 in (
        ap Gathers t.0 ∙ sym (plain_shows (with_vote Plain h w) k.0) ∙ ap (λ m. record_of R f (with_vote m h w)) (sym k.0),
        t.1 f.start ∙ ap (λ m. answer_by m (setting_of R f) f.start h w) (sym k.0),
      )

  pub step_echo : (w : Vote) (o : Record) (p q : EchoRecord) (r : Option News) → o ≡ Echoes p → echo_board.Counts (setting_of R f) w p q r → Counts R f w o (Echoes q) r
  unfolding echo_counts.with_vote echo_board.answer_of answer_of
  step_echo w o p q r at counts h shown =
      let k = echo_shown h o p at shown in
      let t = counts f.start h k.1 in (
        ap Echoes t.0 ∙ sym (echo_shows (with_vote Echo h w) k.0) ∙ ap (λ m. record_of R f (with_vote m h w)) (sym k.0),
        t.1 ∙ ap (λ m. answer_by m (setting_of R f) f.start h w) (sym k.0),
      )

  -- what a record tells of the decision is the method's
  pub told_by_plain : (o : Record) (p : PlainRecord) (r : Option Decision) → o ≡ Gathers p → ((S : Setting) (h : List Vote) → p ≡ plain_board.record_of S h → r ≡ plainly.decided S h) → Decides R f o r
  told_by_plain o p r at tells h shown =
      let k = plain_shown h o p at shown in tells (setting_of R f) h k.1 ∙ ap (λ m. (method_of m (setting_of R f)).decided h) (sym k.0)

  pub told_by_echo : (o : Record) (p : EchoRecord) (r : Option Decision) → o ≡ Echoes p → ((S : Setting) (start : ℕ) (h : List Vote) → p ≡ echo_board.record_of S start h → r ≡ echoing.decided S h) → Decides R f o r
  told_by_echo o p r at tells h shown =
      let k = echo_shown h o p at shown in tells (setting_of R f) f.start h k.1 ∙ ap (λ m. (method_of m (setting_of R f)).decided h) (sym k.0)

  -- and so is what it tells of the words posted
  abbrev Posts : Record → ℕ → ℕ → Bool → Type 0
  Posts o c v r = (h : List Vote) → o ≡ record_of R f h → r ≡ (method_of f.method (setting_of R f)).posts f.start h c v

  pub posted_by_plain : (o : Record) (p : PlainRecord) (c v : ℕ) (r : Bool) → o ≡ Gathers p
      → ((S : Setting) (h : List Vote) → S.depth ≡ f.depth → p ≡ plain_board.record_of S h → r ≡ plainly.posts S f.start h c v) → Posts o c v r
  posted_by_plain o p c v r at tells h shown =
      let k = plain_shown h o p at shown in tells (setting_of R f) h refl k.1 ∙ ap (λ m. (method_of m (setting_of R f)).posts f.start h c v) (sym k.0)

  pub posted_by_echo : (o : Record) (p : EchoRecord) (c v : ℕ) (r : Bool) → f.start ≤ 8 → f.characters ≤ 8 → o ≡ Echoes p
      → ((S : Setting) (start : ℕ) (h : List Vote) → start ≤ 8 → S.characters ≤ 8 → p ≡ echo_board.record_of S start h → r ≡ echoing.posts S start h c v) → Posts o c v r
  posted_by_echo o p c v r low few at tells h shown =
      let k = echo_shown h o p at shown in tells (setting_of R f) f.start h low few k.1 ∙ ap (λ m. (method_of m (setting_of R f)).posts f.start h c v) (sym k.0)
