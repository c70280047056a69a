-- Handed: the rows that are handed to a watch. A credential that stands in a file is what was taken from it last; an entry whose
-- file has given none yet is left out, with all under it.
-- Source: this project's own.
use Rattle.std.specs.Prelude.{ℕ, zero, suc, Bool, true, false, ◌&&◌, List, Option, Some, None, is_none, map}
use Rattle.std.specs.List.{filter}
use Rattle.plan_forest.specs.declared.forest.TheConstants.{MAX_DEPTH}
use Rattle.state_changes.specs.{declared.row.Row.Row, Rows.named, Secrets.taken_from, declared.secret.Secret.Secret}

abbrev pub filled_with : Row → Option Secret → Row
filled_with row None = row
filled_with row (Some s) = record row { credential = s.credential; file = None }

abbrev pub filled_from : List Secret → Row → Option (List ℕ) → Row
filled_from secrets row None = row
filled_from secrets row (Some file) = filled_with row (taken_from secrets row.name file)

-- a row with what its file has given, where it names one and that has given something
unfoldable pub filled : List Secret → Row → Row
filled secrets row = filled_from secrets row row.file

unfoldable pub all_filled : List Secret → List Row → List Row
all_filled secrets rows = map (filled secrets) rows

-- of the entry over another, what is so of it where it is there
abbrev pub if_there : (Row → Bool) → Option Row → Bool
if_there holds None = false
if_there holds (Some row) = holds row

abbrev pub holds_if_parent : List Row → (Row → Bool) → Option (List ℕ) → Bool
holds_if_parent rows holds None = true
holds_if_parent rows holds (Some name) = if_there holds (named rows name)

-- the credential of a row is there, and so is that of each over it, of which there are fewer than so many
unfoldable pub is_ready : ℕ → List Row → Row → Bool
is_ready zero rows row = false
is_ready (suc n) rows row = is_none row.file && holds_if_parent rows (is_ready n rows) row.parent

unfoldable pub all_ready : List Row → List Row
all_ready rows = filter (is_ready MAX_DEPTH rows) rows

unfoldable pub handed : List Secret → List Row → List Row
handed secrets rows = all_ready (all_filled secrets rows)
