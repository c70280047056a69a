-- A parent has the lower index.
use Rattle.watch_machine.proofs.watch.Watch.+least_reach.Given as goal

abbrev pub decreases-least_reach : goal.decreases-least_reach
decreases-least_reach l = l.index
