-- The slots before the place are judged, and those that stay listed end no sooner than the soonest end.
use Rattle.broker_table.specs.Slots.{EndFrom}
use Rattle.broker_table.proofs.Living.{Judged}
use Rattle.broker_table.proofs.slot.sweep_all.Given as goal

abbrev pub invariant-loop-at : goal.invariant-loop-at
invariant-loop-at l = record {
  judged : Judged l.fn.slots l.t l.at l.slots;
  ends : EndFrom l.soonest l.at l.slots;
}
