-- The rows of the entries before the index.
use Rattle.std.proofs.Common.{◌≡◌, map}
use Rattle.std.specs.List.{range_with_len}
use Rattle.agent_pages.specs.Board.{row_of}
use Rattle.agent_pages.proofs.gathering.served_rows.Given as goal

abbrev pub invariant-loop-index : goal.invariant-loop-index
invariant-loop-index l = l.rows.items ≡ map (row_of l.agent) (range_with_len 0 l.index)
