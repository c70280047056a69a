use Rattle.std.proofs.Common.{◌≡◌, ◌++◌, drop}
use Rattle.base_journal.specs.Records.{lines_kept}
use Rattle.base_journal.proofs.records.without.Given as goal

abbrev pub invariant-loop-at : goal.invariant-loop-at
invariant-loop-at l = l.left.items ++ lines_kept (drop l.at l.lines) (drop l.at l.outs) ≡ lines_kept l.lines l.outs
