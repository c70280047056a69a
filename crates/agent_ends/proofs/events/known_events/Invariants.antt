-- The events so far are those of the ends before the current one.
use Rattle.std.proofs.Common.{◌≡◌, take}
use Rattle.agent_ends.specs.Ends.{events_for}
use Rattle.agent_ends.proofs.events.known_events.Given as goal

abbrev pub invariant-loop-end : goal.invariant-loop-end
invariant-loop-end l = l.events.items ≡ events_for l.inventory (take l.end-index l.ends)
