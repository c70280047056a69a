-- LinesOfNexts: what is said of the next time of an entry.
-- Source: docs/running.md, "What the operator sees".
use Rattle.std.specs.Prelude.{◌==◌, Bool, true, false, ◌&&◌, if◌then◌else◌, List, [], ◌∷◌, Option, Some, None, codes}
use Rattle.agent_standing.specs.Agent.{Agent}
use Rattle.program_lines.specs.Text.{name_of}
use Rattle.base_log.specs.declared.level.Level.TheVariants.{Info}
use Rattle.base_log.specs.declared.line.LineWord.TheVariants as words
use Rattle.watch_machine.specs.declared.outlook.Next.{Next}
use Rattle.agent_log.specs.Lines.{Line, said_line, text_line}
use Rattle.agent_words.specs.Moments.{moment_word}

abbrev pub next_log_line : Agent → Option Next → Line
next_log_line a None = text_line Info (codes "next") (codes "none")
next_log_line a (Some next) = said_line Info (codes "next") (moment_word next.at ∷ words.Text (name_of a.inventory.forest next.entry) ∷ [])

abbrev pub is_same_next : Next → Next → Bool
is_same_next a b = a.at == b.at && a.entry == b.entry

-- that was said last; None where nothing was said yet
abbrev pub was_next_said : Option (Option Next) → Option Next → Bool
was_next_said None next = false
was_next_said (Some None) None = true
was_next_said (Some None) (Some next) = false
was_next_said (Some (Some last)) None = false
was_next_said (Some (Some last)) (Some next) = is_same_next last next

abbrev pub next_lines : Agent → Option (Option Next) → Option Next → List Line
next_lines a last next = if was_next_said last next then [] else next_log_line a next ∷ []
