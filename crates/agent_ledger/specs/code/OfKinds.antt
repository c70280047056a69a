-- Words for the credentials of later rows, by kind. No public clause cites them.
-- Source: this project's own.
use Rattle.std.specs.Prelude.{◌≡◌, ℕ, Bool, List}
use Rattle.std.specs.{BTreeSet.BTreeSet, BTreeSet.contains, Cmp.Lexicographic.slice_cmp, List.list_any, declared.cmp.Ordering.Ordering}
use Rattle.std.specs.Ordering.{bool_cmp, nat_cmp, ordering_then}
use Rattle.state_changes.specs.declared.row.Row.{Row}
use Rattle.agent_ledger.specs.{Shared.has_of_kind, declared.shared.OfKind.OfKind}

abbrev pub of_kind_cmp : OfKind → OfKind → Ordering
of_kind_cmp a b = ordering_then (bool_cmp a.is_lease b.is_lease) (slice_cmp nat_cmp a.credential b.credential)

-- the set has the credentials of these rows
abbrev pub AreCredentialsOf : BTreeSet OfKind → List Row → Type 0
AreCredentialsOf set rows = (kind : Bool) (credential : List ℕ) → contains of_kind_cmp set (record { is_lease = kind; credential = credential }) ≡ list_any (has_of_kind kind credential) rows
