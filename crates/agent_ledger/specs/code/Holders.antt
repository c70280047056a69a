-- Words for the look for another entry that has a credential, by what is held. No public clause cites them.
-- Source: this project's own.
use Rattle.std.specs.Prelude.{ℕ, Bool, not, ◌&&◌, List, is_none, bytes_eq}
use Rattle.std.specs.{Bool.beq, List.list_any}
use Rattle.plan_forest.specs.Push.{is_lease}
use Rattle.state_changes.specs.{declared.row.Row.Row, declared.secret.Secret.Secret}
use Rattle.state_secrets.specs.Outcomes.{has_it, is_own_file}

-- another entry of the kind
abbrev pub is_other : Row → Row → Bool
is_other own row = not (bytes_eq row.name own.name) && beq (is_lease row.kind) (is_lease own.kind)

-- one of these has it as its own
abbrev pub is_others_own : List Row → List ℕ → Row → Bool
is_others_own rows credential own = list_any (λ row. is_other own row && (is_none row.file && bytes_eq row.credential credential)) rows

-- the secret was taken for that entry, from the file that it names
abbrev pub is_for : Secret → Row → Bool
is_for secret row = bytes_eq row.name secret.name && is_own_file row.file secret.file

abbrev pub is_for_another : List Row → Row → Secret → Bool
is_for_another rows own secret = list_any (λ row. is_other own row && is_for secret row) rows

-- a secret is this credential, is what is held of its file, and was taken for another entry of the kind
abbrev pub is_others_by_file : List Secret → List Row → List ℕ → Row → Bool
is_others_by_file secrets rows credential own =
    list_any (λ secret. bytes_eq secret.credential credential && (has_it secrets secret.name secret.file credential && is_for_another rows own secret)) secrets
