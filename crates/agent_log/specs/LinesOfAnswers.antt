-- LinesOfAnswers: what is said of an answer to a request.
-- Source: docs/running.md, "What the operator sees".
use Rattle.std.specs.Prelude.{ℕ, ◌+◌, if◌then◌else◌, List, [], ◌∷◌, ◌++◌, Option, Some, None, codes, length, nat_lt, unwrap_or}
use Rattle.agent_standing.specs.{Agent.Agent, declared.standing.Trouble.Trouble}
use Rattle.agent_standing.specs.declared.standing.Trouble.TheVariants as troubles
use Rattle.vault_asking.specs.declared.told.Said.{Said}
use Rattle.vault_lanes.specs.declared.loss.Loss.{Loss}
use Rattle.program_lines.specs.Text.{name_of}
use Rattle.base_log.specs.{declared.level.Level.Level, declared.line.LineWord.LineWord}
use Rattle.base_log.specs.declared.level.Level.TheVariants.{Info, Note, Warning, Alert}
use Rattle.base_log.specs.declared.line.LineWord.TheVariants as words
use Rattle.watch_machine.specs.{Outlook.broker_moment, Outlook.broker_now, State.WatchState, declared.event.Operation.Operation, declared.event.WatchReply.WatchReply, declared.notes.Link.Link, declared.notes.Notes.Notes}
use Rattle.watch_machine.specs.declared.event.Operation.TheVariants.{Look, Renew}
use Rattle.watch_machine.specs.declared.event.WatchReply.TheVariants.{Told, Refused, Busy, Lost}
use Rattle.watch_machine.specs.declared.notes.Link.TheVariants.{Away, Back}
use Rattle.agent_log.specs.Lines.{Line, line_if, loss_words, said_line, text_line}
use Rattle.agent_words.specs.Moments.{moment_word, number_held}

-- how much a trouble matters: what is wrong with an entry is told once, and that it goes on is a note
abbrev pub trouble_level : Option Trouble → Trouble → Level
trouble_level (Some troubles.Gone) trouble = Note
trouble_level (Some troubles.Lost) troubles.Lost = Note
trouble_level (Some troubles.Refused) troubles.Refused = Note
trouble_level before troubles.Gone = Alert
trouble_level before trouble = Warning

-- ---- what came of the request

-- a lookup tells an end, by the broker's clock; a renewal tells seconds
abbrev pub told_event : Operation → List ℕ
told_event Look = codes "entry"
told_event Renew = codes "told"

abbrev pub told_word : WatchState → Operation → ℕ → Option ℕ → LineWord
told_word m Look seconds date = moment_word (number_held (unwrap_or date (broker_now m) + seconds))
told_word m Renew seconds date = words.Number seconds

abbrev pub lost_log_line : List ℕ → List ℕ → Option Trouble → Loss → Line
lost_log_line place name before why = said_line (trouble_level before troubles.Lost) (codes "lost") (words.Text name ∷ loss_words place why)

abbrev pub reply_line : List ℕ → List ℕ → WatchState → Operation → Option Trouble → Loss → WatchReply → Line
reply_line place name m operation before why (Told seconds renewable date) = said_line Info (told_event operation) (words.Text name ∷ told_word m operation seconds date ∷ [])
reply_line place name m operation before why (Refused status date) = said_line (trouble_level before troubles.Refused) (codes "refused") (words.Text name ∷ words.Number status ∷ [])
reply_line place name m operation before why Busy = lost_log_line place name before why
reply_line place name m operation before why Lost = lost_log_line place name before why

-- ---- what is noted of it

abbrev pub gone_lines : List ℕ → Option Trouble → Option ℕ → List Line
gone_lines name before None = []
gone_lines name before (Some status) = said_line (trouble_level before troubles.Gone) (codes "gone") (words.Text name ∷ words.Number status ∷ []) ∷ []

abbrev pub top_lines : List ℕ → WatchState → Option ℕ → List Line
top_lines name m None = []
top_lines name m (Some end) = said_line Note (codes "top") (words.Text name ∷ moment_word (broker_moment m end) ∷ []) ∷ []

-- the broker is away, for the reason of this loss; or it is back
abbrev pub link_lines : List ℕ → Loss → Option Link → List Line
link_lines place why None = []
link_lines place why (Some Away) = said_line Warning (codes "away") (loss_words place why) ∷ []
link_lines place why (Some Back) = said_line Info (codes "back") [] ∷ []

abbrev pub noted_log_lines : List ℕ → List ℕ → WatchState → Option Trouble → Loss → Notes → List Line
noted_log_lines place name m before why notes =
    gone_lines name before notes.gone ++ (top_lines name m notes.top ++ (line_if notes.orphan (text_line Warning (codes "orphan") name)
    ++ (line_if notes.endless (text_line Alert (codes "never") name) ++ link_lines place why notes.link)))

-- ---- all of it, in the agent after it; where its entry is no more, what it says of the broker alone

abbrev pub lines_of_entry : List ℕ → Agent → ℕ → Operation → Said → Notes → Option Trouble → List Line
lines_of_entry place a i operation said notes before =
    reply_line place (name_of a.inventory.forest i) a.machine operation before said.loss said.reply ∷ noted_log_lines place (name_of a.inventory.forest i) a.machine before said.loss notes

unfoldable pub answered_lines : List ℕ → Agent → ℕ → Operation → Said → Notes → Option Trouble → List Line
answered_lines place a i operation said notes before = if nat_lt i (length a.inventory.forest.entries) then lines_of_entry place a i operation said notes before else link_lines place said.loss notes.link
