-- What counting a vote owes, from the parts of the step: where the vote repeats another, and where it is new. Assumes nothing.
use Rattle.std.proofs.Common.{◌≡◌, ℕ, ◌<◌, ◌≤◌, true, false, List, ◌∷◌, Some, None, Option, sym, ap, ◌∙◌, ap₂}
use Rattle.std.proofs.lemmas.Bool.{cond-true, cond-false}
use Rattle.quorum.specs.Rules.{Lawful}
use Rattle.vote.specs.declared.News.{News}
use Rattle.vote.specs.declared.Vote.{Vote}
use Rattle.vote.specs.History.{seen}
use Rattle.vote.specs.Setting.{Setting}
use Rattle.heard.specs.declared.counted.Heard.{Heard}
use Rattle.heard.specs.Repeats.{repeats, with_vote}
use Rattle.heard.specs.Shown.{heard_of}
use Rattle.echo_board.specs.declared.board.EchoRecord.{EchoRecord}
use Rattle.echo_board.specs.declared.findings.Findings.{Findings}
use Rattle.echo_board.specs.Records.{record_of, answer_of}
use Rattle.echo_board.specs.Steps.{completing, remembering, news_in}
use Rattle.echo_board.proofs.Memory.{held_in, remembers, tells}

abbrev made : Heard → Findings → EchoRecord
made y g = record { heard = y; held = g }

module _ (S : Setting) (s : ℕ) (h : List Vote) (w : Vote) (o : EchoRecord) (shown : o ≡ record_of S s h) where
  pub step_repeat : repeats h w ≡ true → (o ≡ record_of S s (with_vote h w)) × (None ≡ answer_of S s h w)
  unfolding with_vote answer_of
  step_repeat e = (shown ∙ ap (record_of S s) (sym (cond-true _ _ _ e)), sym (cond-true _ _ _ e))

  pub step_new : Lawful S.rule → 1 ≤ S.rule.cover → w.sender < S.rule.crew → w.value ≤ S.characters → S.characters ≤ 8 → {y : Heard} {f g : Findings} {n : News} → repeats h w ≡ false → y ≡ heard_of S.rule.crew (seen (w ∷ h)) → f ≡ completing S w (seen (w ∷ h)) o.held
      → g ≡ remembering o.held f → n ≡ news_in o.held f → (made y g ≡ record_of S s (with_vote h w)) × (Some n ≡ answer_of S s h w)
  unfolding with_vote answer_of record_of
  step_new lawful covers within low few {f = f} e noted found after news =
      let held = held_in S s h o shown in (
        ap₂ made noted (after ∙ remembers S lawful covers s h w within low few o.held f held found) ∙ ap (record_of S s) (sym (cond-false _ _ _ e)),
        ap {B = Option News} Some (news ∙ tells S lawful covers s h w within low few o.held f held found) ∙ sym (cond-false _ _ _ e),
      )
