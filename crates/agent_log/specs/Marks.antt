-- Marks: what was said last of each entry.
-- Source: this project's own; docs/running.md, "What the operator sees".
use Rattle.std.specs.Prelude.{ℕ, false, if◌then◌else◌, List, Option, None, length, nat_lt, slice_index_or, slice_set}
use Rattle.agent_standing.specs.declared.standing.Trouble.{Trouble}
use Rattle.agent_log.specs.declared.mark.Mark.{Mark}

-- nothing was said yet
abbrev pub fresh_mark : Mark
fresh_mark = record { trouble = None; is_ended = false; steps_in = false }

-- the mark of an entry, a fresh one where there is none
abbrev pub mark_at : List Mark → ℕ → Mark
mark_at marks i = slice_index_or marks i fresh_mark

-- another mark of an entry, where there is one
abbrev pub with_mark : ℕ → Mark → List Mark → List Mark
with_mark i mark marks = if nat_lt i (length marks) then slice_set marks i mark else marks

abbrev pub with_trouble : ℕ → Option Trouble → List Mark → List Mark
with_trouble i trouble marks = with_mark i (record (mark_at marks i) { trouble = trouble }) marks
