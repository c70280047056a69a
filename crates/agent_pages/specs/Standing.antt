-- Standing: how the agent and each of its entries stand, as lines for people.
-- Source: this project's own, docs/running.md, "What the operator sees".
use Rattle.std.specs.Prelude.{◌≡◌, ℕ, List, ◌++◌, Option, Some, None, codes, decimal}
use Rattle.agent_standing.specs.declared.standing.Trouble.{Trouble}
use Rattle.agent_standing.specs.declared.standing.Trouble.TheVariants.{Lost, Refused, Gone}
use Rattle.agent_pages.specs.{Standby.standby_word, States.state_word, declared.board.Board.Board, declared.board.BoardRow.BoardRow}
use Rattle.agent_pages.specs.Points.{SaysPoint, point_at, point_of}

abbrev pub wrong_word : Option Trouble → List ℕ
wrong_word None = codes "-"
wrong_word (Some Lost) = codes "lost"
wrong_word (Some Refused) = codes "refused"
wrong_word (Some Gone) = codes "gone"

-- the line of an entry, of whose four moments these are the texts
unfoldable pub standing_line : BoardRow → List ℕ → List ℕ → List ℕ → List ℕ → List ℕ
standing_line row until needed reached renewed =
    (row.name ++ codes " ") ++ (state_word row.state ++ codes " end ") ++ (until ++ codes " need ") ++ (needed ++ codes " in-force ")
    ++ (reached ++ codes " last-success ") ++ (renewed ++ codes " wrong ") ++ (wrong_word row.trouble ++ codes "\n")

abbrev pub IsStandingLine : BoardRow → List ℕ → Type 0
IsStandingLine row line =
    (until needed reached renewed : List ℕ) × SaysPoint (point_of row.end) until × SaysPoint (point_at row.need) needed
    × SaysPoint (point_at row.in_force) reached × SaysPoint (point_of row.last_success) renewed
    × (line ≡ standing_line row until needed reached renewed)

-- the first line, where this is the text of the next wake-up: whether the agent is the first, or stands behind another, how often everything was
-- looked up, and the margin
unfoldable pub first_line : Board → List ℕ → List ℕ
first_line b next =
    codes "standby " ++ standby_word b.surroundings.standby.is_behind ++ (codes " next-wake " ++ next) ++ (codes " beginnings " ++ decimal b.beginnings)
    ++ (codes " margin " ++ decimal b.margin) ++ codes "\n"
