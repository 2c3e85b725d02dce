-- One board takes a frame: its record, its answer, and that its slip always fits. Assumes nothing.
use Rattle.std.proofs.Common.{◌≡◌, ℕ, ◌*◌, ◌≤◌, true, List, length, Some, Option, Ok, Err, Result, MatchResult, IfOk, IsErrAnd, is_ok, subst, ap, ap₂, ◌∙◌}
use Rattle.std.proofs.lemmas.Bool.{false≢true}
use Rattle.quorum.specs.Rules.{Rule, Lawful}
use Rattle.vote.specs.declared.Vote.{Vote}
use Rattle.wire.specs.declared.fault.FrameFault.{FrameFault}
use Rattle.wire.specs.declared.posted.Posted.{Posted}
use Rattle.wire.specs.Slips.{words_of}
use Rattle.board.specs.declared.answer.Taken.{Taken}
use Rattle.board.specs.declared.fit.Fit.{Fit}
use Rattle.board.specs.declared.record.Record.{Record}
use Rattle.board.specs.Shown.{record_of, answer_of}
use Rattle.board.specs.Started.{Accepts, slip_of}
use Rattle.board.specs.Taking.{vote_of}
use Rattle.board.proofs.Six.{six_words}
use Rattle.group.specs.declared.fault.GroupFault.{GroupFault}
use Rattle.group.specs.declared.turn.Done.{Done}
use Rattle.group.specs.declared.turn.Turn.{Turn}
use Rattle.group.specs.Calls.{done_of, yield_of, left}
use Rattle.group.specs.Steps.{BoardTakes}

-- what is Ok once its error is mapped was Ok before
pub kept_ok : {X D E : Type 0} (r : Result X D) (t : Result X E) (Q : D → E → Type 0) (x : X) → MatchResult r (λ y. t ≡ Ok y) (λ e. IsErrAnd t (Q e)) → t ≡ Ok x → r ≡ Ok x
kept_ok {X} {D} {E} (Ok y) t Q x m is = cc
kept_ok {X} {D} {E} (Err e) t Q x m is = absurd (subst (λ (u : Result X E). IsErrAnd u (Q e)) is m)

module _ (R : Rule) (f : Fit) (port : ℕ) (xs : List ℕ) (o p : Record) where
  -- a record is shown at its board
  shown_in : (h : List Vote) → ◌≡◌ {A = Option Record} (Some o) (Some (record_of R f h)) → o ≡ record_of R f h
  shown_in h e = cc

  -- no slip is too long, so the answer is the one that is written
  pub board_takes : (taken : Taken) (slip : Posted) (d : Done) (s : Result Turn FrameFault) (scratch : List ℕ) (r : Result Turn GroupFault) (Q : FrameFault → GroupFault → Type 0)
      → Accepts R f port xs o p taken slip → Lawful R → f.characters ≤ 8 → d ≡ done_of taken
      → IfOk s (λ t. record { turn = t; scratch = scratch } ≡ yield_of d slip) → (length (words_of slip) * 19 ≤ 114 → is_ok s ≡ true)
      → MatchResult s (λ t. r ≡ Ok t) (λ e. IsErrAnd r (Q e)) → BoardTakes R f port xs (Some o) (Some p) (left r scratch)
  board_takes taken slip d (Ok t) scratch r Q (w, is, took, own) law low done value fits told h shown =
      let k = took h (shown_in h shown) in
      rw is (ap Some k.shows, ap (λ (u : Result Turn GroupFault). left u scratch) told ∙ ap Ok (value ∙ ap₂ yield_of (done ∙ ap done_of k.tells) k.slips))
  board_takes taken slip d (Err e) scratch r Q (w, is, took, own) law low done value fits told h shown =
      absurd (false≢true (fits (short slip (slip_of f (answer_of R f h (vote_of w))) (took h (shown_in h shown)).slips (six_words R f law low h (vote_of w)))))
    where
      short : (p q : Posted) → p ≡ q → length (words_of q) * 19 ≤ 114 → length (words_of p) * 19 ≤ 114
      short p q e l = rw e l
