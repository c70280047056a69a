-- A request to come has the fault that the map has at its number, and one that was counted has none.
use Rattle.std.proofs.Common.{◌∙◌, ◌<◌, ◌≤◌, ap, sym}
use Rattle.broker_rule.specs.Faults.{Faults, fault_at}
use Rattle.broker_table.proofs.Pending.{fault_counted, fault_pending}
use Rattle.broker_table.proofs.faults.Faults.at.Goals as goal

pub returns-then-number-self : goal.returns-then-number-self
returns-then-number-self c =
    let fields = c.self.inside in
    let ahead : fields.count < c.args.number = c.if-number-self.true in
    c.copied.ensures
    ∙ c.get.ensures.value
    ∙ c.self.invariant c.args.number
    ∙ sym (fault_pending fields.given.items fields.count c.args.number ahead)
    ∙ ap (λ (f : Faults). fault_at f.faults c.args.number) c.self.view_is

pub returns-else-number-self : goal.returns-else-number-self
returns-else-number-self c =
    let fields = c.self.inside in
    let behind : c.args.number ≤ fields.count = c.if-number-self.false in
    sym (fault_counted fields.given.items fields.count c.args.number behind) ∙ ap (λ (f : Faults). fault_at f.faults c.args.number) c.self.view_is
