-- Listed: the rows of what is served, one for each entry.
-- Source: this project's own.
use Rattle.std.specs.Prelude.{ℕ, zero, suc, Bool, true, false, List, [], ◌∷◌, ◌++◌, length, option_map}
use Rattle.plan_forest.specs.{declared.entry.Entry.Entry, Forest.entry_at}
use Rattle.vault_inventory.specs.{declared.need.Need.Need, declared.note.EntryNote.EntryNote, declared.terms.Terms.Terms, Inventories.credential_at, Inventories.terms_at, Served.Served, Served.note_at}
use Rattle.vault_inventory.specs.declared.need.Need.TheVariants.{Until, Always}
use Rattle.state_changes.specs.declared.row.Row.{Row}

-- a need that is `always` has no moment of its own
abbrev pub need_with : Bool → ℕ → Need
need_with true t = Always
need_with false t = Until t

abbrev pub name_at : List Entry → ℕ → List ℕ
name_at es i = (entry_at es i).name

abbrev pub row_with_note : List Entry → Entry → List ℕ → Terms → EntryNote → Row
row_with_note es e sent t note = record {
  name = e.name;
  kind = e.kind;
  parent = option_map (name_at es) e.parent;
  is_told = note.is_told;
  end = e.end;
  renewable = e.renewable;
  terms = t;
  need = need_with note.is_always e.need;
  credential = sent;
  file = note.file;
}

-- the row of the entry at an index
unfoldable pub row_at : Served → ℕ → Row
row_at v i = row_with_note v.inventory.forest.entries (entry_at v.inventory.forest.entries i) (credential_at v.inventory.credentials i) (terms_at v.inventory.terms i) (note_at v.notes i)

-- those of the first n entries
unfoldable pub rows_before : Served → ℕ → List Row
rows_before v zero = []
rows_before v (suc n) = rows_before v n ++ row_at v n ∷ []

-- those of all entries
unfoldable pub rows_of_served : Served → List Row
rows_of_served v = rows_before v (length v.inventory.forest.entries)
