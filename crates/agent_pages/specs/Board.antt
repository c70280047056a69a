-- Board: what onlookers are shown, and what an agent puts on it.
-- Source: this project's own.
use Rattle.std.specs.Prelude.{◌≡◌, ℕ, ◌+◌, List, ◌++◌, Option, Some, None, length, map, min}
use Rattle.std.specs.List.{range_with_len}
use Rattle.plan_forest.specs.{Carried.carried, Forest.entry_at}
use Rattle.watch_machine.specs.{Clocks.sec, Outlook.broker_moment, Outlook.broker_now, State.WatchState, State.entry_of}
use Rattle.agent_standing.specs.{Agent.Agent, Agent.standing_at, Status.status_of_entry}
use Rattle.agent_pages.specs.{declared.board.Board.Board, declared.board.BoardRow.BoardRow, States.state_of, Waiting.waiting_rows}
use Rattle.agent_pages.specs.Naming.{Around, Named, named_by}

-- the moment by the broker's clock of a reading of the clock that never steps, as that is handed in
abbrev pub moment_of_reading : WatchState → ℕ → ℕ
moment_of_reading m reading = broker_moment m (sec (min (reading + m.clocks.phase) 18446744073709551615))

abbrev pub success_of : WatchState → Option ℕ → Option ℕ
success_of m None = None
success_of m (Some reading) = Some (moment_of_reading m reading)

-- the row of an entry: what it is, how it stands, what is told of its renewals. Need and parents are those of the Watch
unfoldable pub row_of : Agent → ℕ → BoardRow
row_of a i =
    record {
      name = (entry_at a.inventory.forest.entries i).name;
      kind = (entry_at a.inventory.forest.entries i).kind;
      state = state_of (status_of_entry a i).condition (status_of_entry a i).end;
      end = (status_of_entry a i).end;
      need = (entry_of a.machine i).need;
      carried = carried a.machine.forest.entries 0 i;
      in_force = (status_of_entry a i).in_force;
      last_success = success_of a.machine (standing_at a i).granted_at;
      trouble = (standing_at a i).trouble;
      granted = (standing_at a i).granted;
      refused = (standing_at a i).refused;
      lost = (standing_at a i).lost;
    }

-- a row for each entry that is served, in the order of the indices
unfoldable pub served_rows : Agent → List BoardRow
served_rows a = map (row_of a) (range_with_len 0 (length a.inventory.forest.entries))

-- and then one for each that waits
unfoldable pub rows_of : Agent → List Named → List BoardRow
rows_of a named = served_rows a ++ waiting_rows a.inventory.forest.entries named

-- what an agent shows, beside what is around it
abbrev pub board_of : Agent → Around → Board
board_of a s =
    record { surroundings = s.surroundings; broker_now = broker_now a.machine; beginnings = a.beginnings; margin = a.inventory.forest.margin; rows = rows_of a (map named_by s.named) }

-- ---- a law: the contract of a public function without a body

-- two agents that differ in credentials and terms alone show the same, where that is so too of the entries that their inventories name
abbrev pub NoCredentialShows : Type 0
NoCredentialShows =
    (a b : Agent) (s t : Around) → a.machine ≡ b.machine → a.inventory.forest ≡ b.inventory.forest → a.standings ≡ b.standings → a.beginnings ≡ b.beginnings
    → s.surroundings ≡ t.surroundings → map named_by s.named ≡ map named_by t.named → board_of a s ≡ board_of b t
