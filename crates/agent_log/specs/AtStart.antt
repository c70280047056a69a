-- AtStart: what is said of a start, or of a state folder that is opened later, one line after another.
-- Source: docs/troubleshooting.md, "Lines of the log".
use Rattle.std.specs.Prelude.{◌≡◌, List, [], ◌∷◌}
use Rattle.agent_words.specs.{Saying.about_word, declared.said.SaidLine.SaidLine}
use Rattle.base_clock.specs.declared.reading.Reading.{Reading}
use Rattle.agent_log.specs.LogDesk.{Desk, HearsAtStart}

abbrev pub IsSaidAtStart : Reading → SaidLine → Desk → Desk → Type 0
IsSaidAtStart now s old new = HearsAtStart now s.level (about_word s.about) s.text old new

-- each of these is said, and nothing else is
abbrev pub AreSaidAtStart : Reading → List SaidLine → Desk → Desk → Type 0
AreSaidAtStart now [] old new = new ≡ old
AreSaidAtStart now (s ∷ rest) old new = (mid : Desk) × (IsSaidAtStart now s old mid × AreSaidAtStart now rest mid new)
