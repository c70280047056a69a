-- What has come of the reply to a request on its way, as the code has it.
use Rattle.std.specs.Prelude.{ℕ, ◌==◌, Bool, ◌||◌, not, List, ◌++◌, length}
use Rattle.vault_lanes.specs.declared.lane.Course.{Course}

-- the bytes that have come: those that were judged, and behind them those that are not judged yet
abbrev pub came_by : Course → List ℕ
came_by course = course.arriving ++ course.piece.items

-- whether bytes are not judged yet, or the end is not
abbrev pub is_unjudged : Course → Bool
is_unjudged course = course.has_ended || not (length course.piece.items == 0)
