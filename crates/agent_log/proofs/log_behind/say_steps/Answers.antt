-- What is said of a request comes before what is said of those to come.
use Rattle.std.proofs.Common.{◌≡◌, ◌+◌, [], arith, drop, get_or, refl, subst, sym}
use Rattle.std.proofs.lemmas.{Grind.common_steps, List.drop_more}
use Rattle.watch_machine.specs.{declared.command.Patience.TheVariants.Full, declared.command.WatchRequest.WatchRequest, declared.event.Operation.TheVariants.Look}
use Rattle.agent_log.specs.{LinesBehind.steps_in_line, LinesBehind.steps_in_lines, Lines.AreSaid}
use Rattle.agent_log.proofs.Said.{both_said}
use Rattle.agent_log.proofs.log_behind.say_steps.Goals as goal

-- what stands in a list past its last request
abbrev none_asked : WatchRequest
none_asked = record { entry = 0; operation = Look; patience = Full }

pub loop-request-preserved : goal.loop-request-preserved
loop-request-preserved c last said =
    let a = c.args.agent.now in
    let lead = c.args.lead in
    let ms = c.args.marks.now in
    let rs = c.args.requests.now in
    let at = c.loop-request.request-index in
    let r : WatchRequest = get_or rs at none_asked in
    let form = c.args.pen.now.form in
    let moment = c.args.pen.now.moment in
    c.loop-request.invariant last
    (subst (λ xs. AreSaid form moment (steps_in_lines a lead ms xs) c.loop-request.room last) (sym (drop_more rs at none_asked c.loop-request-test.true))
    (both_said form moment (steps_in_line a lead ms r) (steps_in_lines a lead ms (drop (at + 1) rs)) c.loop-request.room c.say_step.new.room last c.say_step.ensures said))

pub returns : goal.returns
returns c =
    let e : drop c.loop-request.request-index c.args.requests.now ≡ [] = grind (arith, common_steps) in
    c.loop-request.invariant c.loop-request.room
    (subst (λ xs. AreSaid c.args.pen.now.form c.args.pen.now.moment (steps_in_lines c.args.agent.now c.args.lead c.args.marks.now xs) c.loop-request.room c.loop-request.room) (sym e) refl)
