-- What was written, and the entries to come, are all of them.
use Rattle.std.proofs.Common.{◌≡◌, ◌++◌, drop}
use Rattle.agent_pages.specs.Listing.{more_rows}
use Rattle.agent_pages.proofs.listing.push_more.Given as goal

abbrev pub invariant-loop-row : goal.invariant-loop-row
invariant-loop-row l = l.text.items ++ more_rows (drop l.row-index l.rows) ≡ l.initial.text.items ++ more_rows l.rows
