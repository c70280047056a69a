-- LinesBehind: what an agent says that stands behind another: which ends it looked up, and for whom it steps in.
-- Source: docs/running.md, "What the operator sees".
use Rattle.std.specs.Prelude.{ℕ, ◌-◌, Bool, true, not, ◌&&◌, if◌then◌else◌, List, [], ◌∷◌, codes, filter, flat_map, length, nat_le, nat_lt}
use Rattle.agent_standing.specs.Agent.{Agent}
use Rattle.program_lines.specs.Text.{name_of}
use Rattle.base_log.specs.declared.level.Level.TheVariants.{Info, Warning}
use Rattle.base_log.specs.declared.line.LineWord.TheVariants as words
use Rattle.watch_machine.specs.{Clocks.ms, Outlook.time_of, Refusal.is_same, State.WatchState, State.second, declared.command.WatchRequest.WatchRequest, declared.event.Operation.TheVariants.Renew}
use Rattle.agent_log.specs.{Marks.mark_at, Marks.with_mark, declared.mark.Mark.Mark}
use Rattle.agent_log.specs.Lines.{Line, line_if, said_line, text_line}

-- ---- an end that was looked up

-- the entry has so many seconds left
abbrev pub ahead_line : Agent → ℕ → ℕ → Line
ahead_line a i end = said_line Info (codes "ahead") (words.Text (name_of a.inventory.forest i) ∷ words.Number (end - second a.machine) ∷ [])

-- ---- whom it renews, since the one in front has not

-- the moment has come at which it is looked up, so long before its time (`lead`, in milliseconds), and an end that was renewed in front was not
-- heard, for that would have moved its time on. One that a round asks along before that moment may still be renewed in front
abbrev pub is_step : WatchState → ℕ → WatchRequest → Bool
is_step w lead r = is_same r.operation Renew && (nat_lt r.entry (length w.forest.entries) && nat_le (ms (time_of w r.entry) - lead) w.clocks.at)

-- that is said once, until an end of the entry is looked up again
abbrev pub is_first_step : WatchState → ℕ → List Mark → WatchRequest → Bool
is_first_step w lead marks r = is_step w lead r && not (mark_at marks r.entry).steps_in

abbrev pub steps_in_line : Agent → ℕ → List Mark → WatchRequest → List Line
steps_in_line a lead marks r = line_if (is_first_step a.machine lead marks r) (text_line Warning (codes "steps-in") (name_of a.inventory.forest r.entry))

abbrev pub steps_in_lines : Agent → ℕ → List Mark → List WatchRequest → List Line
steps_in_lines a lead marks requests = flat_map (steps_in_line a lead marks) requests

-- of so many entries
abbrev pub steps_in_count : WatchState → ℕ → List Mark → List WatchRequest → ℕ
steps_in_count w lead marks requests = length (filter (is_first_step w lead marks) requests)

-- whether it was said of an entry, where there is a mark of it
abbrev pub with_step : ℕ → Bool → List Mark → List Mark
with_step i is marks = with_mark i (record (mark_at marks i) { steps_in = is }) marks

abbrev pub with_step_by : WatchState → ℕ → WatchRequest → List Mark → List Mark
with_step_by w lead r marks = if is_step w lead r then with_step r.entry true marks else marks

abbrev pub with_steps : WatchState → ℕ → List WatchRequest → List Mark → List Mark
with_steps w lead [] marks = marks
with_steps w lead (r ∷ rest) marks = with_steps w lead rest (with_step_by w lead r marks)
