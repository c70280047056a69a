use Rattle.std.proofs.Common.{◌≡◌, ◌++◌, length}
use Rattle.base_journal.specs.Records.{AreLines, blocks}
use Rattle.base_journal.proofs.records.read_records.Given as goal

abbrev pub invariant-loop-line : goal.invariant-loop-line
invariant-loop-line l = record { read : blocks l.lines.items ++ l.rest ≡ l.bytes; are_lines : AreLines l.lines.items }

abbrev pub decreases-loop-line : goal.decreases-loop-line
decreases-loop-line l = length l.rest
