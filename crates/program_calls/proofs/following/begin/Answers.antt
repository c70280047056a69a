-- The answer begins after the request.
use Rattle.program_calls.proofs.Beginning.{begins_after}
use Rattle.program_calls.proofs.following.begin.Goals as goal

pub returns-clause-begins : goal.returns-clause-begins
returns-clause-begins g c =
    begins_after (g.L.Device.seen c.args.line.now) (g.L.Device.seen c.give.new.line) (g.L.Device.seen c.open.new.line) g.L.Device.is_in_memory c.open.result c.args.request.now _
    c.in_ok-give.ensures c.open.ensures.opens c.open.ensures.output
