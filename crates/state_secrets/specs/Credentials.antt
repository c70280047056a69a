-- Credentials: where a file of a credential is, and what its text holds.
-- Source: docs/inventory.md, "Secrets in files".
use Rattle.std.specs.Prelude.{ℕ, ◌==◌, Bool, false, if◌then◌else◌, List, [], ◌∷◌, ◌++◌, Option, Some, None}
use Rattle.vault_inventory.specs.Values.{is_credential}
use Rattle.base_words.specs.Texts.{stripped}

-- the path of a file: one that does not begin with `/` (47) starts at a folder, whose own path ends in one, or is empty
abbrev pub is_absolute : List ℕ → Bool
is_absolute [] = false
is_absolute (b ∷ path) = b == 47

abbrev pub placed : List ℕ → List ℕ → List ℕ
placed folder path = if is_absolute path then path else folder ++ path

-- the credential that it is then, where it is one
abbrev pub credential_in : List ℕ → Option (List ℕ)
credential_in text = if is_credential (stripped text) then Some (stripped text) else None
