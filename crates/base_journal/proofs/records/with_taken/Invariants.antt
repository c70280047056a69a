use Rattle.std.proofs.Common.{◌≡◌, ◌++◌, drop}
use Rattle.base_journal.specs.Records.{lines_taken_out}
use Rattle.base_journal.proofs.records.with_taken.Given as goal

abbrev pub invariant-loop-at : goal.invariant-loop-at
invariant-loop-at l = l.text.items ++ lines_taken_out (drop l.at l.lines) (drop l.at l.outs) ≡ l.fn.before.items ++ lines_taken_out l.lines l.outs
