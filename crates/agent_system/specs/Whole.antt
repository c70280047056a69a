-- Whole: what is served of FILE, as it was read, where each file of a credential that it names holds one.
-- Source: this project's own; docs/commands/serve.md, "The inventory" and "Secrets by file".
use Rattle.std.specs.Prelude.{◌≡◌, ℕ, ◌==◌, Bool, if◌then◌else◌, List, [], ◌∷◌, None, Ok}
use Rattle.std.specs.List.{list_any}
use Rattle.agent_words.specs.{Reading.IsToServe, declared.demands.Demands.Demands}
use Rattle.base_files.specs.Files.{FileIsRead, Files}
use Rattle.vault_inventory.specs.declared.limits.TheConstants.{MOST_INVENTORY}
use Rattle.agent_system.specs.declared.reading.Inventories.{Inventories}

-- what stands before a path that starts at the folder of a file: the file's own path up to its last slash
abbrev pub is_slash : ℕ → Bool
is_slash b = b == 47

abbrev pub folder_of : List ℕ → List ℕ
folder_of [] = []
folder_of (b ∷ bs) = if list_any is_slash (b ∷ bs) then b ∷ folder_of bs else []

-- ---- of bytes of FILE, by the files of credentials and the folder at which their paths start

-- each of them holds a credential: all is served that FILE says
pub record IsServedWhole (known : Files) (folder bytes : List ℕ) (d : Demands) (i : Inventories) : Type 0 where
  pub served : IsToServe d known folder bytes (Ok i.served)
  pub named : i.named ≡ None

-- ---- of FILE, by its path

-- where there is no state folder
pub record IsServedFile (known_file known : Files) (file : List ℕ) (d : Demands) (i : Inventories) : Type 0 where
  pub bytes : List ℕ
  pub read : FileIsRead (known_file file) MOST_INVENTORY (Ok bytes)
  pub whole : IsServedWhole known (folder_of file) bytes d i
