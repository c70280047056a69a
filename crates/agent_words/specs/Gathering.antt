-- Gathering: what the files of credentials hold that rows name, and what is said of those that hold none.
-- Source: this project's own; docs/inventory.md, "Secrets in files".
use Rattle.std.specs.Prelude.{◌≡◌, ℕ, List, [], ◌∷◌, ◌++◌, Option, Some, None, Result, Ok, Err, codes}
use Rattle.state_changes.specs.{declared.row.Row.Row, declared.secret.Secret.Secret}
use Rattle.base_files.specs.Files.{Files}
use Rattle.state_secrets.specs.Credentials.{placed}
use Rattle.agent_words.specs.{Filling.FileHolds, Filling.FillingFails, declared.fault.StartFault.StartFault}

-- ---- a row

-- it is what the file holds that the row names
pub record IsHeldFor (known : Files) (folder : List ℕ) (secret : Secret) (row : Row) : Type 0 where
  pub named : secret.name ≡ row.name
  pub file : row.file ≡ Some secret.file
  pub held : FileHolds known (placed folder secret.file) secret.credential

abbrev pub unheld_line : List ℕ → List ℕ
unheld_line name = name ++ codes " is not kept: its file holds no credential; write it there"

-- that file holds none, and this line says so
pub record IsUnheld (known : Files) (folder line : List ℕ) (row : Row) : Type 0 where
  pub path : List ℕ
  pub file : row.file ≡ Some path
  pub fault : StartFault
  pub fails : FillingFails known (placed folder path) 0 fault
  pub says : line ≡ unheld_line row.name

-- what a row gives: nothing, where it names no file
abbrev pub Gives : Files → List ℕ → Row → Option (Result Secret (List ℕ)) → Type 0
Gives known folder row None = row.file ≡ None
Gives known folder row (Some (Ok secret)) = IsHeldFor known folder secret row
Gives known folder row (Some (Err line)) = IsUnheld known folder line row

abbrev pub secret_in : Option (Result Secret (List ℕ)) → List Secret
secret_in None = []
secret_in (Some (Ok secret)) = secret ∷ []
secret_in (Some (Err line)) = []

abbrev pub line_given : Option (Result Secret (List ℕ)) → List (List ℕ)
line_given None = []
line_given (Some (Ok secret)) = []
line_given (Some (Err line)) = line ∷ []

-- ---- rows

-- what they give, each in its order
abbrev pub AreGathered : Files → List ℕ → List Row → List Secret → List (List ℕ) → Type 0
AreGathered known folder [] secrets said = (secrets ≡ []) × (said ≡ [])
AreGathered known folder (row ∷ rows) secrets said =
    (gift : Option (Result Secret (List ℕ))) × (Gives known folder row gift × ((rest : List Secret) × ((lines : List (List ℕ)) × (AreGathered known folder rows rest lines × ((secrets ≡ secret_in gift ++ rest) × (said ≡ line_given gift ++ lines))))))
