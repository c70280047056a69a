-- Order: rows as the tables of a file stand, tokens before leases, and each kind in its order.
-- Source: this project's own.
use Rattle.std.specs.Prelude.{Bool, not, List, ◌++◌}
use Rattle.std.specs.List.{filter}
use Rattle.plan_forest.specs.Push.{is_lease}
use Rattle.state_changes.specs.declared.row.Row.{Row}

-- the rows of the leases, and those of the tokens
abbrev pub is_lease_row : Row → Bool
is_lease_row row = is_lease row.kind

abbrev pub is_token_row : Row → Bool
is_token_row row = not (is_lease row.kind)

unfoldable pub in_order : List Row → List Row
in_order rows = filter is_token_row rows ++ filter is_lease_row rows
