-- Sweep: which rows are still listed at a moment.
-- Source: Vault, "Tokens" (a token's end ends its children and leases); Vault, "Lease, renew, and revoke".
use Rattle.std.specs.Prelude.{ℕ, zero, suc, Bool, true, false, ◌&&◌, List, Option, Some, None, nat_lt}
use Rattle.std.specs.List.{filter}
use Rattle.plan_forest.specs.declared.forest.TheConstants.{MAX_ENTRIES}
use Rattle.broker_rule.specs.{declared.row.BrokerRow.BrokerRow, Rows.row_named}

-- a row that is listed and passes
abbrev pub passes : (BrokerRow → Bool) → Option BrokerRow → Bool
passes test None = false
passes test (Some r) = test r

-- a row whose parent, if it has one, is listed and passes
abbrev pub parent_passes : (BrokerRow → Bool) → List BrokerRow → Option (List ℕ) → Bool
parent_passes test rows None = true
parent_passes test rows (Some name) = passes test (row_named rows name)

-- a row, the row of its parent's name, the row of that one's parent's name and so on, up to one without a parent, are
-- listed and have an end after t: n rows at most
unfoldable pub lives_of : ℕ → List BrokerRow → ℕ → BrokerRow → Bool
lives_of zero rows t r = false
lives_of (suc n) rows t r = nat_lt t r.end && parent_passes (lives_of n rows t) rows r.parent

-- the same, of as many rows as an inventory may have
unfoldable pub lives : List BrokerRow → ℕ → BrokerRow → Bool
lives rows t r = lives_of MAX_ENTRIES rows t r

-- the rows for which each row over them is still listed and has an end after t
unfoldable pub swept : ℕ → List BrokerRow → List BrokerRow
swept t rows = filter (lives rows t) rows
