-- Waiting: the entries that an inventory names and that are not served, each of which waits for its credential, or for that of a token over
-- it.
-- Source: this project's own, docs/commands/serve.md, "Secrets by file".
use Rattle.std.specs.Prelude.{ℕ, Bool, false, ◌||◌, if◌then◌else◌, List, [], ◌∷◌, None, flat_map, is_none, length}
use Rattle.std.specs.List.{range_with_len}
use Rattle.plan_forest.specs.{declared.entry.Entry.Entry, Carried.carried, Forest.entry_at, Forest.index_named}
use Rattle.agent_pages.specs.{declared.board.BoardRow.BoardRow, Naming.Named, Naming.entries_after}
use Rattle.agent_pages.specs.declared.state.EntryState.TheVariants as states

-- an entry waits where none of its name is served
abbrev pub is_waiting : List Entry → List ℕ → Bool
is_waiting served name = is_none (index_named served name)

-- its row, by its index among all that are named: nothing is known of it but that it is needed, by itself or by one under it
unfoldable pub waiting_row : List Entry → ℕ → BoardRow
waiting_row all i =
    record {
      name = (entry_at all i).name;
      kind = (entry_at all i).kind;
      state = states.Waiting;
      end = None;
      need = (entry_at all i).need;
      carried = carried all 0 i;
      in_force = 0;
      last_success = None;
      trouble = None;
      granted = 0;
      refused = 0;
      lost = 0;
    }

abbrev pub row_if_waiting : List Entry → List Entry → ℕ → List BoardRow
row_if_waiting served all i = if is_waiting served (entry_at all i).name then waiting_row all i ∷ [] else []

-- a row for each that waits, in the order in which they are named
unfoldable pub rows_among : List Entry → List Entry → List BoardRow
rows_among served all = flat_map (row_if_waiting served all) (range_with_len 0 (length all))

abbrev pub is_some_waiting : List Entry → List Named → Bool
is_some_waiting served [] = false
is_some_waiting served (x ∷ xs) = is_waiting served x.name || is_some_waiting served xs

unfoldable pub waiting_rows : List Entry → List Named → List BoardRow
waiting_rows served xs = if is_some_waiting served xs then rows_among served (entries_after [] xs) else []
