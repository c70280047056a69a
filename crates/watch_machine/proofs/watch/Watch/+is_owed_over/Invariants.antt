-- A parent has the lower index.
use Rattle.watch_machine.proofs.watch.Watch.+is_owed_over.Given as goal

abbrev pub decreases-is_owed_over : goal.decreases-is_owed_over
decreases-is_owed_over l = l.index
