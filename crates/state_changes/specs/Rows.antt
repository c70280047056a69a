-- Rows: an inventory as its tables write it, entry by entry.
-- Source: this project's own.
use Rattle.std.specs.Prelude.{ℕ, zero, suc, Bool, true, false, ◌&&◌, not, if◌then◌else◌, List, [], ◌∷◌, Option, Some, None, is_none, bytes_eq}
use Rattle.std.specs.{Bool.beq, List.find, List.list_any}
use Rattle.plan_forest.specs.Push.{is_lease}
use Rattle.state_changes.specs.declared.row.Row.{Row}

abbrev pub is_row_named : List ℕ → Row → Bool
is_row_named name row = bytes_eq row.name name

-- the entry of that name
unfoldable pub named : List Row → List ℕ → Option Row
named rows name = find (is_row_named name) rows

-- the token of that name is the one over the entry
abbrev pub is_under : List ℕ → Row → Bool
is_under name row = elim (row.parent) [ None ↦ false | Some parent ↦ bytes_eq parent name ]

-- some entry is right under that name
unfoldable pub has_under : List Row → List ℕ → Bool
has_under rows name = list_any (is_under name) rows

-- no entry has the name of the one that is to stand over
abbrev pub row_lacks_parent : List Row → Option (List ℕ) → Bool
row_lacks_parent rows None = false
row_lacks_parent rows (Some name) = is_none (named rows name)

abbrev pub is_lease_if : Option Row → Bool
is_lease_if None = false
is_lease_if (Some row) = is_lease row.kind

-- the entry that is to stand over is a lease
abbrev pub is_row_under_lease : List Row → Option (List ℕ) → Bool
is_row_under_lease rows None = false
is_row_under_lease rows (Some name) = is_lease_if (named rows name)

-- of an entry that is there, what is so of the one over it
abbrev pub holds_of_parent : (Option (List ℕ) → Bool) → Option Row → Bool
holds_of_parent holds None = false
holds_of_parent holds (Some row) = holds row.parent

-- so many entries or more stand one over the other, from that one up
unfoldable pub is_deep : ℕ → List Row → Option (List ℕ) → Bool
is_deep zero rows parent = true
is_deep (suc n) rows None = false
is_deep (suc n) rows (Some name) = holds_of_parent (is_deep n rows) (named rows name)

-- another entry of the kind has that credential
unfoldable pub is_taken : List Row → Row → List ℕ → Bool
is_taken rows row credential = list_any (λ r. not (bytes_eq r.name row.name) && (beq (is_lease r.kind) (is_lease row.kind) && bytes_eq r.credential credential)) rows

-- the rows with the entry of that name changed
unfoldable pub with_named : (Row → Row) → List ℕ → List Row → List Row
with_named f name [] = []
with_named f name (r ∷ rows) = if is_row_named name r then f r ∷ rows else r ∷ with_named f name rows

-- the rows without the entry of that name
unfoldable pub without_row : List ℕ → List Row → List Row
without_row name [] = []
without_row name (r ∷ rows) = if is_row_named name r then rows else r ∷ without_row name rows
