-- Shared: entries of one kind that have one credential, and so cannot be handed on together.
-- Source: docs/inventory.md, "Secrets in files".
use Rattle.std.specs.Prelude.{ℕ, Bool, false, ◌&&◌, ◌||◌, List, [], ◌∷◌, bytes_eq, length, nat_lt}
use Rattle.std.specs.{Bool.beq, List.list_any}
use Rattle.plan_forest.specs.Push.{is_lease}
use Rattle.state_changes.specs.declared.row.Row.{Row}
use Rattle.agent_ledger.specs.declared.secret_changes.TheConstants.{ALWAYS_FIT}

-- an entry of that kind, which is a lease or not, has that credential
abbrev pub has_of_kind : Bool → List ℕ → Row → Bool
has_of_kind kind credential row = beq (is_lease row.kind) kind && bytes_eq row.credential credential

-- two of these entries of one kind have one credential
unfoldable pub is_any_shared : List Row → Bool
is_any_shared [] = false
is_any_shared (row ∷ rows) = is_any_shared rows || list_any (has_of_kind (is_lease row.kind) row.credential) rows

-- they may not go together: there are so many that the text of all of them may be too long, or two have one credential
unfoldable pub may_be_apart : List Row → Bool
may_be_apart rows = nat_lt ALWAYS_FIT (length rows) || is_any_shared rows
