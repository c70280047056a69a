-- Health: whether all that is needed is kept, and the line of an entry that is not.
-- Source: this project's own, docs/running.md, "What the operator sees".
use Rattle.std.specs.Prelude.{◌≡◌, ℕ, Bool, true, false, ◌&&◌, not, if◌then◌else◌, List, [], ◌++◌, codes, nat_lt}
use Rattle.std.specs.List.{list_any}
use Rattle.base_moment.specs.declared.moment.TheConstants.{LAST}
use Rattle.agent_pages.specs.{declared.board.Board.Board, declared.board.BoardRow.BoardRow, declared.state.EntryState.EntryState, States.is_kept}
use Rattle.agent_pages.specs.declared.state.EntryState.TheVariants.{Gone, Ended, Waiting, Short, Unknown, Trying, Kept}
use Rattle.agent_pages.specs.Points.{SaysPoint, point_at, point_of}

-- an entry is missing that is needed, by itself or by one under it, and is not kept
unfoldable pub is_missing : ℕ → BoardRow → Bool
is_missing now row = nat_lt now row.carried && not (is_kept row.state)

-- none is
unfoldable pub is_healthy : Board → Bool
is_healthy b = not (list_any (is_missing b.broker_now) b.rows)

unfoldable pub why_words : EntryState → List ℕ
why_words Gone = codes "gone: the broker does not know it, or refuses to look it up"
why_words Ended = codes "ended: at "
why_words Waiting = codes "waiting: its credential is not in use yet"
why_words Short = codes "short: it can be kept until "
why_words Unknown = codes "unknown: the broker has not answered for it yet"
why_words Trying = codes "trying"
why_words Kept = codes "kept"

-- the moment that follows: the end that is past, or until when the entry can be kept
abbrev pub SaysWhyMoment : EntryState → BoardRow → List ℕ → Type 0
SaysWhyMoment Ended row text = SaysPoint (point_of row.end) text
SaysWhyMoment Short row text = SaysPoint (point_at row.in_force) text
SaysWhyMoment state row text = text ≡ []

unfoldable pub needed_words : ℕ → List ℕ
needed_words need = if nat_lt need LAST then codes ", and is needed until " else codes ", and is needed "

-- the line of an entry, where these are the text of the moment that follows why it is not kept, and that of its need
unfoldable pub missing_line : BoardRow → List ℕ → List ℕ → List ℕ
missing_line row why need = row.name ++ codes " " ++ (why_words row.state ++ why) ++ (needed_words row.carried ++ need) ++ codes "\n"

abbrev pub IsMissingLine : BoardRow → List ℕ → Type 0
IsMissingLine row line =
    (why need : List ℕ) × SaysWhyMoment row.state row why × SaysPoint (point_at row.carried) need × (line ≡ missing_line row why need)

-- an entry that is not missing has no line
abbrev pub IsMissingLineIf : Bool → BoardRow → List ℕ → Type 0
IsMissingLineIf true row line = IsMissingLine row line
IsMissingLineIf false row line = line ≡ []
