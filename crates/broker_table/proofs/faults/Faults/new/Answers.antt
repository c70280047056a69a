-- Where no fault was given, no number has one.
use Rattle.std.proofs.Common.{List, ap, sym, ◌∙◌}
use Rattle.broker_rule.specs.{declared.fault.NumberedFault.NumberedFault, Faults.fault_at}
use Rattle.broker_table.proofs.Pending.{none_pending, numbered_none}
use Rattle.broker_table.proofs.faults.Faults.new.Goals as goal

pub returns : goal.returns
returns c = none_pending c.new.result.items c.new.ensures.items

pub invariant_of-result : goal.invariant_of-result
invariant_of-result c n = numbered_none c.new-2.result c.new-2.ensures.empty n ∙ ap (λ (fs : List NumberedFault). fault_at fs n) (sym c.new.ensures.items)
