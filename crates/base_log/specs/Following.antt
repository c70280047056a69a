-- Following: the lines that one who follows the log is told.
-- Source: docs/running.md, "What the operator sees"; the rest is this project's own.
use Rattle.std.specs.Prelude.{ℕ, Bool, not, ◌||◌, if◌then◌else◌, List}
use Rattle.base_log.specs.{Lines.is_alerted, declared.level.Level.Level}
use Rattle.base_log.specs.Waiting.{Waiting, dropping, with_line}

-- one is told of a level, unless it wants warnings and alerts alone and the level is neither
abbrev pub hears : Bool → Level → Bool
hears alerts_alone level = not alerts_alone || is_alerted level

-- a line of this level is put
abbrev pub put_if_heard : Bool → Level → List ℕ → List ℕ → Waiting → Waiting
put_if_heard alerts_alone level notice line w = if hears alerts_alone level then with_line notice line w else w

-- and one that could not be made is counted as dropped
abbrev pub missed_line : Bool → Level → Waiting → Waiting
missed_line alerts_alone level w = if hears alerts_alone level then dropping 1 w else w
