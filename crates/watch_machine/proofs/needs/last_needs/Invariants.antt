-- What counts for the entries before the index is found.
use Rattle.std.proofs.Common.{◌≡◌, map}
use Rattle.std.specs.List.{range_with_len}
use Rattle.plan_needs.specs.Carried.{load_at}
use Rattle.watch_machine.specs.{State.track_in, code.View.need_by}
use Rattle.watch_machine.proofs.needs.last_needs.Given as goal

abbrev pub invariant-loop-index : goal.invariant-loop-index
invariant-loop-index l = l.needs.items ≡ map (λ i. need_by (track_in l.tracks i) (load_at l.cut i).need (load_at l.free i).need) (range_with_len 0 l.index)
