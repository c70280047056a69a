-- It is over with what came of it.
use Rattle.vault_lanes.proofs.Moved.{holds_as, moves_over, on_refused, wants_as}
use Rattle.vault_lanes.proofs.way.Way.go_on.Goals as goal

pub returns-in-Some-clause-moves : goal.returns-in-Some-clause-moves
returns-in-Some-clause-moves g c =
    moves_over g.L.Line.written g.L.Line.remaining g.L.Line.failures g.L.Line.reason c.args.now c.args.self.now c.in-Out.lane c.go_on.new.self c.in_ok-answer.field-0 c.in-Some.answer c.in-Out.is c.in-Some.is (record {
      allowance = c.go_on.ensures.allowance;
      sent = c.in_ok-answer.ensures.written;
      heard = c.in_ok-answer.ensures.heard;
      first = c.in_ok-answer.ensures.first;
      settled = c.in_ok-answer.ensures.settled;
      failing = c.in_ok-answer.ensures.failing;
    })

pub returns-in_err-answer-clause-wants : goal.returns-in_err-answer-clause-wants
returns-in_err-answer-clause-wants g c =
    on_refused c.from_residual.result (wants_as g.L.Line.written g.L.Line.remaining g.L.Line.failures c.args.self.now c.in-Out.lane c.go_on.new.self c.in-Out.is (record {
      allowance = c.go_on.ensures.allowance;
      sent = c.go_on.ensures.written;
      came = c.in_err-answer.ensures.came;
      first = c.in_err-answer.ensures.still;
      unjudged = c.in_err-answer.ensures.unjudged;
      failing = c.in_err-answer.ensures.unfailed;
    }))

pub returns-in_err-answer-clause-holds : goal.returns-in_err-answer-clause-holds
returns-in_err-answer-clause-holds g c = on_refused c.from_residual.result (holds_as _ c.args.self.now c.in-Out.lane c.go_on.new.self c.in-Out.is c.in_err-answer.ensures.holds)
