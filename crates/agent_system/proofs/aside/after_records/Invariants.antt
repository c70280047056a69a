-- What is left of the bytes begins with the records that are left.
use Rattle.std.proofs.Common.{◌≡◌, ◌++◌, ℕ, List, drop}
use Rattle.base_journal.specs.Records.{blocks}
use Rattle.agent_system.proofs.aside.after_records.Given as goal

abbrev pub invariant-loop-line : goal.invariant-loop-line
invariant-loop-line l = (end : List ℕ) → l.bytes ≡ blocks l.lines ++ end → l.rest ≡ blocks (drop l.line-index l.lines) ++ end
