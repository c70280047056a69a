-- Those that are there at the moment are handed back, and no others.
use Rattle.std.proofs.Common.{Some, IfOk, subst}
use Rattle.vault_lanes.specs.{Out.AreThereAt, Seats.outs, declared.coming.Coming.Coming}
use Rattle.broker_lanes.specs.InMemory.{InMemory}
use Rattle.broker_lanes.proofs.There.{left_due, there_at}
use Rattle.broker_lanes.proofs.lanes.MemoryLanesLanes.go_on.Goals as goal

pub returns-clause-there : goal.returns-clause-there
returns-clause-there c =
    subst (λ (v : InMemory). IfOk c.take_out.result (λ answers. AreThereAt c.args.now v.out answers.items (outs (λ (coming : Coming). Some coming) c.take_out.new.out.items))) c.self.view_is
    (there_at c.take_out.result (λ answers. answers.items) c.args.now c.self.inside.out.items c.take_out.new.out.items c.take_out.ensures.there)

pub returns-clause-settled : goal.returns-clause-settled
returns-clause-settled c =
    left_due c.take_out.result (λ answers. answers.items) c.args.now (outs (λ (coming : Coming). Some coming) c.self.inside.out.items) (outs (λ (coming : Coming). Some coming) c.take_out.new.out.items)
    (there_at c.take_out.result (λ answers. answers.items) c.args.now c.self.inside.out.items c.take_out.new.out.items c.take_out.ensures.there)
