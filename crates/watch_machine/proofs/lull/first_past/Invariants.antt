-- The second is the first in which a need, or an end that is ahead, of the entries before the index is past.
use Rattle.std.proofs.Common.{ℕ, ◌<◌, ◌≤◌}
use Rattle.watch_machine.specs.{State.track_in, Wanted.believed, code.View.need_at}
use Rattle.watch_machine.proofs.lull.first_past.Given as goal

abbrev pub invariant-loop-index : goal.invariant-loop-index
invariant-loop-index l = record {
  need : (i : ℕ) → i < l.index → 0 < need_at l.needs i → l.lasting ≤ need_at l.needs i;
  end : (i : ℕ) → i < l.index → l.now < believed (track_in l.tracks i).end → l.lasting ≤ believed (track_in l.tracks i).end;
}
