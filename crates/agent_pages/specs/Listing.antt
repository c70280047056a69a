-- Listing: how the agent and each entry stand, as one text of JSON.
-- Source: RFC 8259; the members are this project's own. Moments are seconds since 1970-01-01T00:00:00Z.
use Rattle.std.specs.Prelude.{ℕ, List, [], ◌∷◌, ◌++◌, Option, Some, None, codes, decimal}
use Rattle.agent_standing.specs.declared.standing.Trouble.{Trouble}
use Rattle.agent_standing.specs.declared.standing.Trouble.TheVariants as troubles
use Rattle.vault_inventory.specs.Kinds.{kind_word}
use Rattle.agent_pages.specs.{declared.board.Board.Board, declared.board.BoardRow.BoardRow, Escapes.json_value, Standby.standby_word, States.state_word}

abbrev pub trouble_word : Option Trouble → List ℕ
trouble_word None = codes "null"
trouble_word (Some troubles.Lost) = codes "\"lost\""
trouble_word (Some troubles.Refused) = codes "\"refused\""
trouble_word (Some troubles.Gone) = codes "\"gone\""

-- name, kind, state and what is wrong
unfoldable pub words_text : BoardRow → List ℕ
words_text row =
    codes "{\"name\":\"" ++ json_value row.name ++ codes "\",\"kind\":\"" ++ kind_word row.kind ++ codes "\",\"state\":\"" ++ state_word row.state
    ++ codes "\",\"wrong\":" ++ trouble_word row.trouble

-- a member with a number, its name first
unfoldable pub member_text : List ℕ → Option ℕ → List ℕ
member_text name None = name ++ codes "null"
member_text name (Some n) = name ++ decimal n

unfoldable pub numbers_text : BoardRow → List ℕ
numbers_text row =
    member_text (codes ",\"end\":") row.end ++ member_text (codes ",\"need\":") (Some row.need) ++ member_text (codes ",\"carried\":") (Some row.carried)
    ++ member_text (codes ",\"in_force\":") (Some row.in_force) ++ member_text (codes ",\"last_success\":") row.last_success
    ++ member_text (codes ",\"granted\":") (Some row.granted) ++ member_text (codes ",\"refused\":") (Some row.refused)
    ++ member_text (codes ",\"lost\":") (Some row.lost) ++ codes "}"

unfoldable pub board_row_text : BoardRow → List ℕ
board_row_text row = words_text row ++ numbers_text row

-- each row after a comma
abbrev pub more_rows : List BoardRow → List ℕ
more_rows [] = []
more_rows (row ∷ rows) = codes "," ++ board_row_text row ++ more_rows rows

unfoldable pub rows_text : List BoardRow → List ℕ
rows_text [] = []
rows_text (row ∷ rows) = board_row_text row ++ more_rows rows

-- the numbers of the agent
unfoldable pub agent_numbers : Board → List ℕ
agent_numbers b =
    member_text (codes "\",\"now\":") (Some b.broker_now) ++ member_text (codes ",\"next_wake\":") b.surroundings.next_wake
    ++ member_text (codes ",\"beginnings\":") (Some b.beginnings) ++ member_text (codes ",\"margin\":") (Some b.margin)

-- whether the agent is the first, or stands behind another, its numbers, and the entries
unfoldable pub listing_text : Board → List ℕ
listing_text b =
    codes "{\"standby\":\"" ++ standby_word b.surroundings.standby.is_behind ++ agent_numbers b ++ codes ",\"entries\":[" ++ rows_text b.rows ++ codes "]}\n"
