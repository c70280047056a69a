-- What was written, and any lines of the entries to come, are lines of all of them.
use Rattle.std.proofs.Common.{◌≡◌, ◌++◌, ℕ, List, drop}
use Rattle.agent_pages.specs.Lines.{AreEntryLines}
use Rattle.agent_pages.proofs.lines.push_lines.Given as goal

abbrev pub invariant-loop-row : goal.invariant-loop-row
invariant-loop-row l = (rest : List ℕ) → AreEntryLines l.lines (drop l.row-index l.rows) rest
    → (said : List ℕ) × AreEntryLines l.lines l.rows said × (l.text.items ++ rest ≡ l.initial.text.items ++ said)
