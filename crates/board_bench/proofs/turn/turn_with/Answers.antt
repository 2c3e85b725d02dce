-- The frame is what follows the comma. Assumes nothing.
use Rattle.std.proofs.Common.{rules, ◌≡◌, Some, refl, ap, arith}
use Rattle.board_bench.specs.declared.answer.Answer.TheVariants.{Refused, Taken}
use Rattle.board_bench.specs.Saying.{said_in}
use Rattle.board_bench.proofs.Turning.{turned_refused, turned_taken}
use Rattle.board_bench.proofs.turn.turn_with.Goals as goal

pub returns-in-Err : goal.returns-in-Err
returns-in-Err c =
    let said : Some (c.in-Some.port, c.in-Some.frame.now) ≡ said_in c.args.line.now = search rules in
    record {
      same = c.take.ensures.same;
      turned = turned_refused _ _ _ _ _ _ _ c.args.line.now c.in-Some.port c.in-Some.frame.now said c.in-Err.fault c.in-Err.ensures.refused.0 (ap Refused c.into.ensures) c.in-Err.ensures.refused.1 refl;
      within = omega arith;
    }

pub returns-in-Ok : goal.returns-in-Ok
returns-in-Ok c =
    let said : Some (c.in-Some.port, c.in-Some.frame.now) ≡ said_in c.args.line.now = search rules in
    record {
      same = c.take.ensures.same;
      turned = turned_taken _ _ _ _ _ _ _ c.args.line.now c.in-Some.port c.in-Some.frame.now said _ _ c.in-Ok.ensures.accepted
          (ap (Taken c.in-Ok.how) c.count.ensures) c.written-end.ensures.value c.written-end.ensures.buffer;
      within = c.written-end.ensures.within;
    }
