-- The second is no later than each time that is ahead, of an entry before the index that is due.
use Rattle.std.proofs.Common.{◌≡◌, ℕ, ◌<◌, ◌≤◌, true}
use Rattle.plan_forest.specs.Forest.{entry_at}
use Rattle.watch_machine.specs.{Lines.is_due, Margins.time, State.track_in}
use Rattle.watch_machine.proofs.line.first_coming.Given as goal

abbrev pub invariant-loop-index : goal.invariant-loop-index
invariant-loop-index l =
    (i : ℕ) → i < l.index → is_due l.presence l.since (track_in l.tracks i) ≡ true → l.now < time l.margin (entry_at l.forest.entries i) (track_in l.tracks i) →
    l.coming ≤ time l.margin (entry_at l.forest.entries i) (track_in l.tracks i)
