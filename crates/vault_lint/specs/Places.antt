-- Places: where in the text of an inventory the tables of its entries stand, and their keys.
-- Source: this project's own.
use Rattle.std.specs.Prelude.{ℕ, ◌+◌, Bool, true, false, not, if◌then◌else◌, List, [], ◌∷◌, ◌++◌, Option, Some, None, bytes_eq}
use Rattle.vault_inventory.specs.Keys.{key_text}
use Rattle.plan_forest.specs.declared.entry.Kind.{Kind}
use Rattle.plan_forest.specs.declared.entry.Kind.TheVariants as kinds
use Rattle.vault_lint.specs.{Marks.is_of_table, declared.mark.Mark.Mark, declared.places.Sought.Sought}
use Rattle.vault_lint.specs.declared.mark.Mark.TheVariants as marks
use Rattle.vault_lint.specs.declared.places.Sought.TheVariants as soughts

-- the line begins the table of an entry of that kind
abbrev pub is_table_of : Kind → Mark → Bool
is_table_of kinds.Token (marks.Table kinds.Token) = true
is_table_of kinds.Lease (marks.Table kinds.Lease) = true
is_table_of kind mark = false

abbrev pub begins_table : Mark → Bool
begins_table (marks.Table kind) = true
begins_table marks.Other = true
begins_table mark = false

-- the number of a line, where it does
abbrev pub head_at : Kind → ℕ → Mark → List ℕ
head_at kind line mark = if is_table_of kind mark then line ∷ [] else []

-- the numbers, from 1 on, of those lines of these, which are those from this one on, counted from 0
abbrev pub heads_from : Kind → ℕ → List Mark → List ℕ
heads_from kind at [] = []
heads_from kind at (mark ∷ later) = head_at kind (at + 1) mark ++ heads_from kind (at + 1) later

-- the numbers of the lines that begin the tables of entries, in the order of the entries: all tokens first
unfoldable pub heads_of : List Mark → List ℕ
heads_of found = heads_from kinds.Token 0 found ++ heads_from kinds.Lease 0 found

-- ---- keys

-- the line begins the value that is sought
abbrev pub is_sought : Sought → Mark → Bool
is_sought (soughts.Key key) (marks.Key other) = bytes_eq (key_text key) (key_text other)
is_sought (soughts.Unknown table) (marks.Key key) = not (is_of_table table key)
is_sought (soughts.Unknown table) marks.Unknown = true
is_sought sought mark = false

-- the first of these lines, which are those from this one on, counted from 0, that does, before the next table
abbrev pub first_in : Sought → ℕ → List Mark → Option ℕ
first_in sought at [] = None
first_in sought at (mark ∷ later) = if is_sought sought mark then Some at else (if begins_table mark then None else first_in sought (at + 1) later)
