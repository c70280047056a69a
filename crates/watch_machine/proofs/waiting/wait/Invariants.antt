-- The wait is the least of the moments of the entries before the index.
use Rattle.std.proofs.Common.{◌≡◌, map}
use Rattle.std.specs.List.{range_with_len}
use Rattle.plan_forest.specs.Forest.{entry_at}
use Rattle.watch_machine.specs.{State.track_in, Wait.latest, Wait.next_of, Wanted.least, code.View.need_at}
use Rattle.watch_machine.proofs.waiting.wait.Given as goal

abbrev pub invariant-loop-index : goal.invariant-loop-index
invariant-loop-index l =
    l.least ≡ least (latest l.margin l.at)
    (map (λ i. next_of l.margin (entry_at l.forest.entries i) (need_at l.needs i) l.presence l.at (track_in l.tracks i)) (range_with_len 0 l.index))
