-- Saying: what a start says in the log before anything else.
-- Source: this project's own; docs/troubleshooting.md, "Lines of the log".
use Rattle.std.specs.Prelude.{◌≡◌, ◌⊎◌, ℕ, List, codes, decimal}
use Rattle.agent_log.specs.AtStart.{AreSaidAtStart}
use Rattle.agent_log.specs.LogDesk.{Desk, HearsAtStart, begun_desk}
use Rattle.base_clock.specs.declared.reading.Reading.{Reading}
use Rattle.base_log.specs.{declared.form.Form.Form, declared.level.Level.Level, declared.level.Level.TheVariants.Info}
use Rattle.agent_words.specs.{declared.said.About.About, declared.said.SaidLine.SaidLine}

-- the log of an agent with so many entries, in which that was said
abbrev pub BeginsDesk : Form → List ℕ → ℕ → Reading → List SaidLine → Desk → Type 0
BeginsDesk form place count now said desk = AreSaidAtStart now said (begun_desk form place count) desk

-- it is said, unless memory is wanting for the words
pub record SaysOrWants (now : Reading) (level : Level) (event text : List ℕ) (old new : Desk) : Type 0 where
  pub either : (new ≡ old) ⊎ HearsAtStart now level event text old new

-- the margin of an agent that stands behind another
abbrev pub SaysBehind : Reading → ℕ → Desk → Desk → Type 0
SaysBehind now margin old new = SaysOrWants now Info (codes "behind") (decimal margin) old new

-- a text of that level and about that
abbrev pub said_as : Level → About → List ℕ → SaidLine
said_as level about text = record { level = level; about = about; text = text }

abbrev pub IsSaidAs : Level → About → SaidLine → Type 0
IsSaidAs level about s = (s.level ≡ level) × (s.about ≡ about)
