-- Secrets: what was taken from the files of credentials, and what of it is held for an entry.
-- Source: this project's own.
use Rattle.std.specs.Prelude.{ℕ, Bool, ◌&&◌, List, Option, bytes_eq}
use Rattle.std.specs.List.{find}
use Rattle.state_changes.specs.declared.secret.Secret.{Secret}

abbrev pub is_of : List ℕ → List ℕ → Secret → Bool
is_of name file s = bytes_eq s.name name && bytes_eq s.file file

-- what was taken last from the file of that path for the entry of that name
unfoldable pub taken_from : List Secret → List ℕ → List ℕ → Option Secret
taken_from secrets name file = find (is_of name file) secrets
