-- Each turn of the loop takes one event and appends its result without asking for memory.
use Rattle.std.proofs.Common.{◌≡◌, ◌≤◌, length, take}
use Rattle.std.specs.Vec.{vec_capacity, vec_len}
use Rattle.tick_keeper.specs.History.{CoreHistory}
use Rattle.tick_keeper.proofs.keeper.Keeper.steps.Given as goal

-- the events so far have given these results, and there is room for those of the others
abbrev pub invariant-loop-event : goal.invariant-loop-event
invariant-loop-event l = CoreHistory l.initial.self (take l.event-index l.events) l.results.items l.self × (vec_len l.results ≡ l.event-index) × (length l.events ≤ vec_capacity l.results)
