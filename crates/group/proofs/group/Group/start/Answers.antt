use Rattle.std.proofs.Common.{[], Ok, sym, ap, ◌∙◌, arith}
use Rattle.std.proofs.lemmas.Bool.{false≢true, some_since}
use Rattle.std.proofs.lemmas.Grind.{common_steps}
use Rattle.std.proofs.lemmas.Option.{MatchOption-at_some}
use Rattle.std.proofs.lemmas.Result.{IfOk-at_ok}
use Rattle.board.specs.declared.fit.Fit.{Fit}
use Rattle.board.specs.Shown.{record_of}
use Rattle.board.specs.Started.{first_posted}
use Rattle.group.specs.declared.turn.Done.TheVariants.{Started}
use Rattle.group.specs.Calls.{starting, run_of, yield_of}
use Rattle.group.specs.Promises.{Plays}
use Rattle.group.proofs.Boards.{kept_ok}
use Rattle.group.proofs.Called.{start_refused, start_stands}
use Rattle.group.proofs.Outside.{unheard}
use Rattle.group.proofs.Played.{accepted, shown_run}
use Rattle.group.proofs.Shown.{begun_at, records_start}
use Rattle.group.proofs.group.Group.start.Goals as goal

pub returns-then-board-from-clause-plays : goal.returns-then-board-from-clause-plays
returns-then-board-from-clause-plays g c = start_refused _ _ (g.met.R.FailureRule.lawful c.args.self.now.rule) _ _ (grind (arith, common_steps))

pub returns-then-lies-clause-plays : goal.returns-then-lies-clause-plays
returns-then-lies-clause-plays g c =
    let lies = c.if-lies.ensures (g.R.FailureRule.meaning c.args.self.now.rule) in
    start_refused _ _ (g.met.R.FailureRule.lawful c.args.self.now.rule) _ _ (grind (arith, common_steps))

pub returns-then-begun-clause-plays : goal.returns-then-begun-clause-plays
returns-then-begun-clause-plays g c =
    let lies = c.if-lies.ensures (g.R.FailureRule.meaning c.args.self.now.rule) in
    start_refused _ _ (g.met.R.FailureRule.lawful c.args.self.now.rule) _ _ (grind (arith, common_steps))

pub returns-in_err-fitting-clause-plays : goal.returns-in_err-fitting-clause-plays
unfolding Plays
returns-in_err-fitting-clause-plays g c xs reached =
    absurd (false≢true (c.in_err-fitting.ensures.variant ∙ some_since c.fitting.result _ _ c.fitting.ensures (λ l. omega (arith, l, reached.opened.crew_fits))))

pub returns-clause-plays : goal.returns-clause-plays
returns-clause-plays g c =
    let R = g.R.FailureRule.meaning c.args.self.now.rule in
    let T = c.args.self.now.terms in
    let o = c.args.self.now.records in
    let law = g.met.R.FailureRule.lawful c.args.self.now.rule in
    let fits = MatchOption-at_some _ _ _ c.in_ok-fitting.ensures.ok_part c.fitting.ensures in
    accepted law (starting c.args.board) o _ _ (λ xs reached. sym (grind (arith, common_steps, c.if-lies.ensures)) ∙ start_stands T o c.args.board xs reached)
    (λ xs reached. (
      records_start R T (run_of R T xs) o c.args.board c.record.result fits.0 (shown_run xs reached)
          (unheard law reached.opened xs c.args.board (sym (c.if-begun.ensures ∙ begun_at R T (run_of R T xs) o (shown_run xs reached) c.args.board fits.0)))
          (c.record.ensures R ∙ ap (λ (f : Fit). record_of R f []) fits.1),
      ap Ok (IfOk-at_ok _ (kept_ok _ _ _ _ c.map_err.ensures.cases c.in_ok-turn.was) c.written.ensures.value
          ∙ ap (yield_of Started) (c.first_slip-slip.ensures.value R ∙ ap (first_posted R) fits.1)),
    ))
