-- One more is out, with what comes of it; where memory was wanting the table is left as it may be.
use Rattle.std.proofs.Common.{Some, inl, refl, subst}
use Rattle.vault_lanes.specs.{Out.OutIsPut, Seats.outs, declared.coming.Coming.Coming}
use Rattle.vault_lanes.specs.Serving.{BehindLanes, BrokerIsLeft, RequestIsSent}
use Rattle.broker_lanes.specs.InMemory.{InMemory}
use Rattle.broker_lanes.proofs.Sent.{left_in_memory, on_err, sent_with}
use Rattle.broker_lanes.proofs.lanes.MemoryLanesLanes.send.Goals as goal

pub returns-in_err-reserve-clause-left : goal.returns-in_err-reserve-clause-left
returns-in_err-reserve-clause-left c =
    let old : BehindLanes = record { table = c.self.inside.exchange.table; faults = c.self.inside.faults.items; count = c.self.inside.count } in
    on_err _ c.from_residual.result (subst (λ (v : InMemory). BrokerIsLeft c.args.t c.args.ask.now.request v.behind (Some old)) c.self.view_is
    (left_in_memory c.args.t c.args.ask.now.request old c.self.inside.exchange.table (inl refl)))

pub returns-in_err-standing-clause-left : goal.returns-in_err-standing-clause-left
returns-in_err-standing-clause-left c =
    let old : BehindLanes = record { table = c.self.inside.exchange.table; faults = c.self.inside.faults.items; count = c.self.inside.count } in
    let new : BehindLanes = record { table = c.serve.new.exchange.table; faults = c.self.inside.faults.items; count = c.self.inside.count } in
    on_err _ c.from_residual-in_err-standing.result (subst (λ (v : InMemory). BrokerIsLeft c.args.t c.args.ask.now.request v.behind (Some new)) c.self.view_is
    (left_in_memory c.args.t c.args.ask.now.request old c.serve.new.exchange.table c.in_err-standing.ensures.left))

pub returns-clause-sent : goal.returns-clause-sent
returns-clause-sent c =
    let old : BehindLanes = record { table = c.self.inside.exchange.table; faults = c.self.inside.faults.items; count = c.self.inside.count } in
    let new : BehindLanes = record { table = c.serve.new.exchange.table; faults = c.self.inside.faults.items; count = c.saturating_add-number.result } in
    subst (λ (v : InMemory). RequestIsSent v.seconds c.args.t c.args.now c.args.ask.now (Some v.behind) v.out (Some new) (outs (λ (coming : Coming). Some coming) c.put.new.out.items)) c.self.view_is
    (sent_with c.self.inside.seconds c.args.t c.args.now c.args.ask.now old (outs (λ (coming : Coming). Some coming) c.self.inside.out.items) (outs (λ (coming : Coming). Some coming) c.put.new.out.items)
    c.in_ok-standing.standing c.serve.new.exchange.table c.saturating_add-number.result c.fault_at-fault.result c.deref.result.now c.new-allowance.result
    (subst (λ l. OutIsPut (record { index = c.args.ask.now.index; comes = Some c.in_ok-standing.standing }) (outs (λ (coming : Coming). Some coming) l) (outs (λ (coming : Coming). Some coming) c.put.new.out.items))
    c.reserve.ensures.items c.put.ensures.put)
    c.in_ok-standing.ensures.comes c.saturating_add-number.ensures c.fault_at-fault.ensures c.deref.ensures.value c.new-allowance.ensures)
