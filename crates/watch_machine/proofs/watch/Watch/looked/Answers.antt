-- Nothing is made of the answer to a request whose entry is no more, and nothing is noted of it.
use Rattle.std.proofs.Common.{◌∙◌, ◌≤◌, arith, length, sym}
use Rattle.watch_machine.proofs.Nobody.{looked_past, notes_past, past_all}
use Rattle.watch_machine.proofs.watch.Watch.looked.Goals as goal

pub returns-then-request-len-clause-state : goal.returns-then-request-len-clause-state
returns-then-request-len-clause-state c =
    let r = c.args.request in
    let past : length c.self.inside.forest.entries ≤ r.entry = omega (arith, c.if-request-len.true, c.len.ensures.value) in
    sym (looked_past c.args.self.now r c.args.reply c.args.terms (past_all _ c.args.self.now r.entry c.self.view_is c.self.invariant.count past))

pub returns-then-request-len-clause-notes : goal.returns-then-request-len-clause-notes
returns-then-request-len-clause-notes c =
    let r = c.args.request in
    let past : length c.self.inside.forest.entries ≤ r.entry = omega (arith, c.if-request-len.true, c.len.ensures.value) in
    c.none.ensures ∙ sym (notes_past c.args.self.now r c.args.reply c.args.terms (past_all _ c.args.self.now r.entry c.self.view_is c.self.invariant.count past).entries)
