-- The first moment is that of the entries before the index.
use Rattle.std.proofs.Common.{◌≡◌, map}
use Rattle.std.specs.List.{range_with_len}
use Rattle.plan_forest.specs.Forest.{entry_at}
use Rattle.watch_machine.specs.{declared.lull.TheConstants.NEVER, State.track_in, Wanted.least, code.Lull.due_at, code.View.need_at}
use Rattle.watch_machine.proofs.lull.next_due.Given as goal

abbrev pub invariant-loop-index : goal.invariant-loop-index
invariant-loop-index l =
    l.least ≡ least NEVER (map (λ i. due_at l.margin (entry_at l.forest.entries i) (need_at l.needs i) l.presence (track_in l.tracks i)) (range_with_len 0 l.index))
