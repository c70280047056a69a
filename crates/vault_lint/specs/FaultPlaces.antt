-- FaultPlaces: the lines of keys and tables, counted from 1; 0 where none is found. `found` is what each line begins, `heads` the lines of the
-- tables of entries.
-- Source: this project's own; docs/commands/lint.md.
use Rattle.std.specs.Prelude.{◌≡◌, ◌⊎◌, ℕ, ◌+◌, ◌-◌, ◌==◌, Bool, true, false, if◌then◌else◌, List, [], ◌∷◌, Option, Some, None, drop, filter, is_some, length, slice_get, take}
use Rattle.vault_inventory.specs.declared.key.Key.{Key}
use Rattle.plan_forest.specs.declared.entry.Kind.{Kind}
use Rattle.vault_lint.specs.{Places.first_in, declared.mark.Mark.Mark, declared.places.Sought.Sought}
use Rattle.vault_lint.specs.declared.mark.Mark.TheVariants as marks
use Rattle.vault_lint.specs.declared.places.Sought.TheVariants as soughts

-- a line that is counted from 0, where there is one; else another, counted from 1
abbrev pub line_or : ℕ → Option ℕ → ℕ
line_or other None = other
line_or other (Some at) = at + 1

-- the line of what is sought from a line on, before the next table
abbrev pub line_from : List Mark → Sought → ℕ → ℕ → ℕ
line_from found sought from other = line_or other (first_in sought from (drop from found))

abbrev pub line_under : List Mark → Sought → Option ℕ → ℕ
line_under found sought None = 0
line_under found sought (Some head) = line_from found sought head head

-- the same in the table of an entry, else its head; before all tables, where there is no entry
abbrev pub sought_line : List Mark → List ℕ → Option ℕ → Sought → ℕ
sought_line found heads None sought = line_from found sought 0 0
sought_line found heads (Some i) sought = line_under found sought (slice_get heads i)

abbrev pub line_of : List Mark → List ℕ → Option ℕ → Key → ℕ
line_of found heads entry key = sought_line found heads entry (soughts.Key key)

abbrev pub kind_at : Option Mark → Option Kind
kind_at (Some (marks.Table kind)) = Some kind
kind_at other = None

abbrev pub kind_under : List Mark → Option ℕ → Option Kind
kind_under found None = None
kind_under found (Some head) = kind_at (slice_get found (head - 1))

-- the kind of an entry, where its table is found
abbrev pub kind_of : List Mark → List ℕ → ℕ → Option Kind
kind_of found heads i = kind_under found (slice_get heads i)

-- the table with this head has a key; where it is not found, this is said of it
abbrev pub has_key_under : List Mark → Key → Bool → Option ℕ → Bool
has_key_under found key unfound None = unfound
has_key_under found key unfound (Some head) = is_some (first_in (soughts.Key key) head (drop head found))

abbrev pub has_key : List Mark → List ℕ → ℕ → Key → Bool → Bool
has_key found heads i key unfound = has_key_under found key unfound (slice_get heads i)

-- a line that begins a table which no inventory has
abbrev pub is_other : Mark → Bool
is_other marks.Other = true
is_other mark = false

-- the first of these lines, which are those from this one on, counted from 0, that does
abbrev pub first_other : ℕ → List Mark → ℕ
first_other at [] = 0
first_other at (mark ∷ later) = if is_other mark then at + 1 else first_other (at + 1) later

abbrev pub line_unless_0 : ℕ → ℕ → ℕ
line_unless_0 line other = if line == 0 then other else line

-- the line of the first key that the table of an entry does not have; of the first key or table at the top level that no inventory has there
abbrev pub unknown_line : List Mark → List ℕ → Option ℕ → ℕ
unknown_line found heads None = line_unless_0 (sought_line found heads None (soughts.Unknown None)) (first_other 0 found)
unknown_line found heads (Some i) = sought_line found heads (Some i) (soughts.Unknown (kind_of found heads i))

-- ---- the syntax

abbrev pub is_line_feed : ℕ → Bool
is_line_feed byte = byte == 10

-- the line of the byte at an index
abbrev pub line_at : List ℕ → ℕ → ℕ
line_at bytes at = length (filter is_line_feed (take at bytes)) + 1

-- the line of some byte, or none
abbrev pub IsSomeLine : List ℕ → ℕ → Type 0
IsSomeLine bytes line = (line ≡ 0) ⊎ ((at : ℕ) × (line ≡ line_at bytes at))
