-- The rows so far are those of the tokens before the current row.
use Rattle.std.proofs.Common.{◌≡◌, ◌++◌, take}
use Rattle.std.specs.List.{filter}
use Rattle.state_file.specs.Order.{is_token_row}
use Rattle.state_file.proofs.order.push_tokens.Given as goal

abbrev pub invariant-loop-row : goal.invariant-loop-row
invariant-loop-row l = l.ordered.items ≡ l.initial.ordered.items ++ filter is_token_row (take l.row-index l.rows)
