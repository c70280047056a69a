-- A request that is sent whole is answered by what is read after it.
use Rattle.program_calls.proofs.Heard.{answers_after, unsent_answers}
use Rattle.program_calls.proofs.hearing.hear.Goals as goal

pub returns-in_err-give-clause-heard : goal.returns-in_err-give-clause-heard
returns-in_err-give-clause-heard g c =
    unsent_answers c.from_residual.result c.in_err-give.field-0.0 c.args.request.now _ c.from_residual.ensures c.in_err-give.ensures

pub returns-clause-heard : goal.returns-clause-heard
returns-clause-heard g c =
    answers_after c.listen.result (g.L.Device.seen c.args.line.now) (g.L.Device.seen c.give.new.line) (g.L.Device.seen c.listen.new.line) g.L.Device.is_in_memory c.args.request.now _
    c.in_ok-give.ensures c.listen.ensures.heard c.listen.ensures.output
