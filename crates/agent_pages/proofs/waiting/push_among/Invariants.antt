-- The rows of those before the index that wait stand after those that were there.
use Rattle.std.proofs.Common.{◌≡◌, ◌++◌, flat_map}
use Rattle.std.specs.List.{range_with_len}
use Rattle.agent_pages.specs.Waiting.{row_if_waiting}
use Rattle.agent_pages.proofs.waiting.push_among.Given as goal

abbrev pub invariant-loop-index : goal.invariant-loop-index
invariant-loop-index l = l.rows.items ≡ l.initial.rows.items ++ flat_map (row_if_waiting l.served.entries l.all.entries) (range_with_len 0 l.index)
