-- Lines: how much a line matters, and how it says so.
-- Source: docs/running.md, "What the operator sees".
use Rattle.std.specs.Prelude.{ℕ, Bool, true, false, List, [], codes}
use Rattle.base_log.specs.declared.level.Level.{Level}
use Rattle.base_log.specs.declared.level.Level.TheVariants.{Info, Note, Warning, Alert}

-- told to those who follow warnings and alerts alone
abbrev pub is_alerted : Level → Bool
is_alerted Info = false
is_alerted Note = false
is_alerted Warning = true
is_alerted Alert = true

-- its name in JSON
abbrev pub level_name : Level → List ℕ
level_name Info = codes "info"
level_name Note = codes "note"
level_name Warning = codes "warning"
level_name Alert = codes "alert"

-- what stands before the event in a line for people
abbrev pub level_mark : Level → List ℕ
level_mark Info = []
level_mark Note = codes "note: "
level_mark Warning = codes "warning: "
level_mark Alert = codes "alert: "
