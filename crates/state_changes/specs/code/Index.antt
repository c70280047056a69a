-- Words for the look-up of rows by name. No public clause cites them.
-- Source: this project's own.
use Rattle.std.specs.Prelude.{ℕ, suc, Bool, true, false, ◌&&◌, List, [], ◌∷◌, Option, Some, None, is_none, is_some, nat_le, Vec}
use Rattle.std.specs.{BTreeMap.BTreeMap, BTreeMap.get_by, Cmp.Lexicographic.slice_cmp, Ordering.nat_cmp, declared.alloc.Global.Global}
use Rattle.state_changes.specs.{declared.row.Row.Row, Rows.is_row_named, Rows.named}

-- what a map has at these bytes
abbrev pub at_bytes : BTreeMap (Vec ℕ Global) ℕ → List ℕ → Option ℕ
at_bytes m q = get_by (λ k. slice_cmp nat_cmp q k.items) m

-- no two rows have one name
abbrev pub are_apart : List Row → Bool
are_apart [] = true
are_apart (r ∷ rows) = is_none (named rows r.name) && are_apart rows

-- a place, which is not before this one
abbrev pub is_not_before : ℕ → Option ℕ → Bool
is_not_before i None = false
is_not_before i (Some place) = nat_le i place

-- each of these rows, which begin at a place, is looked for where it stands or after it
abbrev pub are_found : (List ℕ → Option ℕ) → ℕ → List Row → Bool
are_found find i [] = true
are_found find i (r ∷ rows) = is_not_before i (find r.name) && are_found find (suc i) rows

-- where no two rows have one name, the map finds each
unfoldable pub is_index : Bool → BTreeMap (Vec ℕ Global) ℕ → List Row → Bool
is_index false m rows = true
is_index true m rows = are_apart rows && are_found (at_bytes m) 0 rows

-- each credential of these rows has been seen
abbrev pub are_seen : (List ℕ → Option ℕ) → List Row → Bool
are_seen look [] = true
are_seen look (r ∷ rows) = is_some (look r.credential) && are_seen look rows

-- a map has each credential of the rows, and perhaps others
unfoldable pub has_seen : BTreeMap (Vec ℕ Global) ℕ → List Row → Bool
has_seen m rows = are_seen (at_bytes m) rows

-- the first of these rows has that name
abbrev pub begins_with : List ℕ → List Row → Bool
begins_with name [] = false
begins_with name (r ∷ rows) = is_row_named name r
