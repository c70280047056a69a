-- The answer to a request whose entry is no more has no top.
use Rattle.std.proofs.Common.{◌≤◌, arith, length, sym}
use Rattle.watch_machine.proofs.Nobody.{past_all, top_past}
use Rattle.watch_machine.proofs.watch.Watch.renewed.Goals as goal

pub returns-then-request-len-clause-top : goal.returns-then-request-len-clause-top
returns-then-request-len-clause-top c =
    let r = c.args.request in
    let past : length c.self.inside.forest.entries ≤ r.entry = omega (arith, c.if-request-len.true, c.len.ensures.value) in
    sym (top_past c.args.self.now r c.args.reply (past_all _ c.args.self.now r.entry c.self.view_is c.self.invariant.count past).tracks)
