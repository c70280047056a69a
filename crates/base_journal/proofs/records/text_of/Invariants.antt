use Rattle.std.proofs.Common.{◌≡◌, ◌++◌, drop}
use Rattle.base_journal.specs.Records.{blocks}
use Rattle.base_journal.proofs.records.text_of.Given as goal

abbrev pub invariant-loop-line : goal.invariant-loop-line
invariant-loop-line l = l.text.items ++ blocks (drop l.line-index l.lines) ≡ blocks l.lines
