-- LinesOfClocks: what is said once the time was handed in, and of needs that cannot be kept.
-- Source: docs/running.md, "What the operator sees".
use Rattle.std.specs.Prelude.{ℕ, ◌+◌, Bool, true, false, not, ◌&&◌, if◌then◌else◌, List, [], ◌∷◌, ◌++◌, Option, Some, None, codes, flat_map, length, map, nat_lt}
use Rattle.std.specs.List.{list_any, range_with_len}
use Rattle.agent_standing.specs.{Agent.Agent, Agent.standing_at, Status.status_of_entry, declared.shorts.Short.Short, declared.standing.Trouble.Trouble, declared.status.Condition.Condition}
use Rattle.agent_standing.specs.declared.status.Condition.TheVariants as conditions
use Rattle.program_lines.specs.Text.{name_of}
use Rattle.base_log.specs.declared.line.LineWord.{LineWord}
use Rattle.base_log.specs.declared.level.Level.TheVariants.{Info, Warning, Alert}
use Rattle.base_log.specs.declared.line.LineWord.TheVariants as words
use Rattle.plan_forest.specs.Forest.{Forest}
use Rattle.watch_machine.specs.{Outlook.broker_now, Refusal.is_same, State.entry_of, declared.command.WatchRequest.WatchRequest, declared.event.Operation.Operation, declared.notes.Notes.Notes, declared.notes.BeginReason.BeginReason}
use Rattle.watch_machine.specs.declared.event.Operation.TheVariants.{Look, Renew}
use Rattle.watch_machine.specs.declared.notes.BeginReason.TheVariants.{Start, Asked, Jump, Day}
use Rattle.agent_log.specs.{Marks.mark_at, declared.mark.Mark.Mark}
use Rattle.agent_log.specs.Lines.{Line, line_if, said_line, text_line}
use Rattle.agent_words.specs.Moments.{moment_word}

-- ---- why everything is looked up anew, and the round that opens

abbrev pub why_text : BeginReason → List ℕ
why_text Start = codes "start"
why_text Asked = codes "asked"
why_text Jump = codes "jump"
why_text Day = codes "day"

abbrev pub begin_lines : Option BeginReason → List Line
begin_lines None = []
begin_lines (Some why) = text_line Info (codes "begin") (why_text why) ∷ []

abbrev pub name_words : Forest → List ℕ → List LineWord
name_words g asked = flat_map (λ i. words.Text (name_of g i) ∷ []) asked

abbrev pub wake_lines : Agent → Option (List ℕ) → List Line
wake_lines a None = []
wake_lines a (Some asked) = said_line Info (codes "wake") (moment_word (broker_now a.machine) ∷ name_words a.inventory.forest asked) ∷ []

-- ---- whom is asked what, in the order in which it goes out

abbrev pub asked_word : Forest → Operation → WatchRequest → List LineWord
asked_word g operation r = if is_same r.operation operation then words.Text (name_of g r.entry) ∷ [] else []

abbrev pub asked_words : Forest → Operation → List WatchRequest → List LineWord
asked_words g operation requests = flat_map (asked_word g operation) requests

abbrev pub is_operation_asked : Operation → List WatchRequest → Bool
is_operation_asked operation requests = list_any (λ r. is_same r.operation operation) requests

abbrev pub asked_log_lines : Forest → List ℕ → Operation → List WatchRequest → List Line
asked_log_lines g event operation requests = line_if (is_operation_asked operation requests) (said_line Info event (asked_words g operation requests))

-- ---- ends that are past

abbrev pub is_ended : Condition → Bool
is_ended conditions.Gone = false
is_ended conditions.Ended = true
is_ended conditions.Short = false
is_ended conditions.Trying = false
is_ended conditions.Kept = false

-- the end of an entry is past, which its table still needs
abbrev pub is_past_end : Agent → ℕ → Bool
is_past_end a i = is_ended (status_of_entry a i).condition && nat_lt (broker_now a.machine) (entry_of a.machine i).need

abbrev pub has_entry_ended : Agent → ℕ → Bool
has_entry_ended a i = nat_lt i (length a.inventory.forest.entries) && is_past_end a i

abbrev pub end_in : Option ℕ → ℕ
end_in None = 0
end_in (Some end) = end

-- that is said once, as long as it lasts
abbrev pub ended_line : Agent → ℕ → Mark → List Line
ended_line a i mark =
    line_if (has_entry_ended a i && not mark.is_ended) (said_line Alert (codes "ended") (words.Text (name_of a.inventory.forest i) ∷ moment_word (end_in (status_of_entry a i).end) ∷ []))

abbrev pub ended_lines : Agent → ℕ → List Mark → List Line
ended_lines a i [] = []
ended_lines a i (mark ∷ marks) = ended_line a i mark ++ ended_lines a (i + 1) marks

abbrev pub with_ended : Agent → ℕ → Mark → Mark
with_ended a i mark = record mark { is_ended = has_entry_ended a i }

unfoldable pub marks_clocked : Agent → List Mark → List Mark
marks_clocked a marks = map (λ i. with_ended a i (mark_at marks i)) (range_with_len 0 (length marks))

-- ---- another inventory is served from now on

-- what is wrong with an entry, by the last answer about it, of those that there are
abbrev pub trouble_at : Agent → ℕ → Option Trouble
trouble_at a i = if nat_lt i (length a.inventory.forest.entries) then (standing_at a i).trouble else None

-- what was said of an entry is carried over with it
abbrev pub carried_mark : Agent → ℕ → Mark
carried_mark a i = record { trouble = trouble_at a i; is_ended = has_entry_ended a i; steps_in = false }

unfoldable pub marks_anew : Agent → ℕ → List Mark
marks_anew a count = map (carried_mark a) (range_with_len 0 count)

-- ---- all of it

unfoldable pub clocked_lines : Agent → Notes → List WatchRequest → List Mark → List Line
clocked_lines a notes requests marks =
    begin_lines notes.began ++ (wake_lines a notes.round ++ (asked_log_lines a.inventory.forest (codes "look") Look requests
    ++ (asked_log_lines a.inventory.forest (codes "renew") Renew requests ++ ended_lines a 0 marks)))

-- ---- needs that are past what their entries reach

abbrev pub short_log_line : Forest → Short → Line
short_log_line g short = said_line (if short.reissued then Alert else Warning) (codes "short") (words.Text (name_of g short.entry) ∷ moment_word short.reach ∷ [])

unfoldable pub short_log_lines : Agent → List Short → List Line
short_log_lines a shorts = map (short_log_line a.inventory.forest) shorts

-- ---- memory that was refused

abbrev pub memory_line : Line
memory_line = text_line Warning (codes "memory") (codes "refused")
