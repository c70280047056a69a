-- The copies so far are the entries before the current one.
use Rattle.std.proofs.Common.{◌≡◌, take}
use Rattle.plan_forest.proofs.forest.copy_entries.Given as goal

abbrev pub invariant-loop-entry : goal.invariant-loop-entry
invariant-loop-entry l = l.copies.items ≡ take l.entry-index l.entries
