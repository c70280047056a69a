-- The moment is no later than that of each entry before the index that is due.
use Rattle.std.proofs.Common.{◌≡◌, ℕ, ◌<◌, ◌≤◌, true}
use Rattle.plan_forest.specs.Forest.{entry_at}
use Rattle.watch_machine.specs.{Lines.is_due, State.track_in, code.Line.left_at, code.View.need_at}
use Rattle.watch_machine.proofs.line.first_beyond.Given as goal

abbrev pub invariant-loop-index : goal.invariant-loop-index
invariant-loop-index l =
    (i : ℕ) → i < l.index → is_due l.presence l.since (track_in l.tracks i) ≡ true →
    l.beyond ≤ left_at l.margin (entry_at l.forest.entries i) (need_at l.needs i) l.presence l.since (track_in l.tracks i)
