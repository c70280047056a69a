-- Folders: whether a state folder keeps changes over a restart, and what health says of it.
-- Source: this project's own, docs/commands/serve.md, "Changes".
use Rattle.std.specs.Prelude.{ℕ, Bool, true, false, List, [], codes}
use Rattle.agent_pages.specs.declared.state_folder.StateFolder.{StateFolder}
use Rattle.agent_pages.specs.declared.state_folder.StateFolder.TheVariants.{NotAskedFor, CannotBeUsed, IsOpen}

abbrev pub is_open : StateFolder → Bool
is_open NotAskedFor = false
is_open CannotBeUsed = false
is_open IsOpen = true

-- a line where a folder was asked for and cannot be used
abbrev pub folder_line : StateFolder → List ℕ
folder_line NotAskedFor = []
folder_line CannotBeUsed = codes "changes hold until a restart only: the state folder cannot be used\n"
folder_line IsOpen = []
