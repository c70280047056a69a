-- The lines so far are those of the runs before the index.
use Rattle.std.proofs.Common.{take}
use Rattle.plan_commands.specs.PlanDates.{AreRunLines}
use Rattle.plan_commands.proofs.plan_dates_text.run_lines.Given as goal

abbrev pub invariant-loop-run : goal.invariant-loop-run
invariant-loop-run l = AreRunLines l.forest.entries (take l.run-index l.runs) l.lines.items
