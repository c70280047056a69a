-- Judged: what is doubted of the text of an inventory.
-- Source: this project's own; docs/commands/lint.md.
use Rattle.std.specs.Prelude.{◌≡◌, ℕ, Bool, List, Option, Some, None, Err}
use Rattle.vault_inventory.specs.{Inventory.read_served, declared.fault.InvFault.InvFault}
use Rattle.vault_lint.specs.{Doubts.doubts, Subjects.IsSubject}
use Rattle.program_lint.specs.declared.judged.Doubted.{Doubted}

-- those of what the text writes; or it is no inventory
abbrev pub AreDoubts : List ℕ → List Bool → ℕ → ℕ → Option Doubted → Type 0
AreDoubts text open_files now timeout None = (fault : InvFault) × (read_served text ≡ Err fault)
AreDoubts text open_files now timeout (Some doubted) = IsSubject text open_files now timeout doubted.subject × (doubted.doubts.items ≡ doubts doubted.subject)
