-- So far nothing was said of so many entries.
use Rattle.std.proofs.Common.{◌≡◌, replicate}
use Rattle.agent_log.specs.Marks.{fresh_mark}
use Rattle.agent_log.proofs.mark.fresh_marks.Given as goal

abbrev pub invariant-loop : goal.invariant-loop
invariant-loop l = l.marks.items ≡ replicate l.counter fresh_mark
