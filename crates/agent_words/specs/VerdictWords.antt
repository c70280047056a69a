-- VerdictWords: what a client is told by the verdict on the credential that it has brought.
-- Source: docs/commands/calls.md.
use Rattle.std.specs.Prelude.{ℕ, List, [], ◌++◌, codes, decimal}
use Rattle.state_changes.specs.declared.change.ChangeKind.{ChangeKind}
use Rattle.state_changes.specs.declared.change.ChangeKind.TheVariants as what

abbrev pub later_words : List ℕ
later_words = codes "another credential is being looked up; try again"

abbrev pub status_words : ℕ → List ℕ
status_words status = codes "the broker answers " ++ (decimal status ++ codes " to its lookup")

abbrev pub endless_words : List ℕ
endless_words = codes "it never ends (ttl 0) and needs no keeping"

-- where an entry was to have another credential
abbrev pub kept_words : List ℕ → ChangeKind → List ℕ
kept_words name (what.Need need) = []
kept_words name (what.Replace credential) = codes ": " ++ (name ++ codes " keeps the old one")
kept_words name (what.Add row) = []
kept_words name what.Drop = []
