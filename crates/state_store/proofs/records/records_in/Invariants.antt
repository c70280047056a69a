-- The records so far are those of the lines before the current one.
use Rattle.std.proofs.Common.{◌≡◌, take}
use Rattle.state_store.specs.Records.{records_in}
use Rattle.state_store.proofs.records.records_in.Given as goal

abbrev pub invariant-loop-line : goal.invariant-loop-line
invariant-loop-line l = l.records.items ≡ records_in (take l.line-index l.lines)
