-- Changes: what a change makes of an inventory, or why it cannot be made.
-- Source: this project's own.
use Rattle.std.specs.Prelude.{◌≡◌, ◌⊎◌, ℕ, ◌+◌, Bool, true, false, if◌then◌else◌, List, [], ◌∷◌, ◌++◌, Option, Some, None, is_some, length, nat_le, nat_lt, Result, Ok, Err}
use Rattle.plan_forest.specs.{declared.forest.TheConstants.MAX_DEPTH, declared.forest.TheConstants.MAX_ENTRIES, Push.first_met}
use Rattle.vault_inventory.specs.Terms.{step_of}
use Rattle.state_changes.specs.{declared.change.ChangeKind.ChangeKind, declared.fault.ChangeFault.ChangeFault, declared.row.Row.Row}
use Rattle.state_changes.specs.declared.fault.ChangeFault.TheVariants.{NoEntry, NameTwice, NoParent, ParentIsLease, StepTooSmall, TooDeep, Full, CredentialTwice, InFile, HasUnder, OutOfMemory}
use Rattle.state_changes.specs.Rows.{named, row_lacks_parent, is_row_under_lease, is_deep, has_under, is_taken, with_named, without_row}
use Rattle.state_changes.specs.declared.change.ChangeKind.TheVariants as what

-- why an entry cannot be added, None where it can
unfoldable pub refused_row : ℕ → List Row → Row → Option ChangeFault
refused_row margin rows row =
    first_met ((is_some (named rows row.name), NameTwice)
    ∷ (row_lacks_parent rows row.parent, NoParent)
    ∷ (is_row_under_lease rows row.parent, ParentIsLease)
    ∷ (nat_lt (step_of row.terms) (margin + 1), StepTooSmall)
    ∷ (is_deep MAX_DEPTH rows row.parent, TooDeep)
    ∷ (nat_le MAX_ENTRIES (length rows), Full)
    ∷ (is_taken rows row row.credential, CredentialTwice)
    ∷ [])

-- why the credential of an entry cannot be another one
abbrev pub refused_credential : List Row → List ℕ → Row → Option ChangeFault
refused_credential rows credential row = if is_taken rows row credential then Some CredentialTwice else (if is_some row.file then Some InFile else None)

-- why an entry cannot be dropped
abbrev pub refused_drop : List Row → Row → Option ChangeFault
refused_drop rows row = if has_under rows row.name then Some HasUnder else None

abbrev pub never_refuses : Row → Option ChangeFault
never_refuses row = None

-- why a change of the entry of a name cannot be made: there is none, or by that entry
abbrev pub refusal_of_entry : (Row → Option ChangeFault) → Option Row → Option ChangeFault
refusal_of_entry refused None = Some NoEntry
refusal_of_entry refused (Some row) = refused row

-- the same of a change, with the entry of its name. An entry that is added has the name of its row
abbrev pub refused_of : ℕ → List Row → ChangeKind → Option Row → Option ChangeFault
refused_of margin rows (what.Need until) row = refusal_of_entry never_refuses row
refused_of margin rows (what.Replace credential) row = refusal_of_entry (refused_credential rows credential) row
refused_of margin rows (what.Add added) row = refused_row margin rows added
refused_of margin rows what.Drop row = refusal_of_entry (refused_drop rows) row

-- why a change of the entry of that name cannot be made within that margin, None where it can
unfoldable pub change_refusal : ℕ → List Row → List ℕ → ChangeKind → Option ChangeFault
change_refusal margin rows name w = refused_of margin rows w (named rows name)

-- the rows as they are once it is made
abbrev pub rows_with_change : List Row → List ℕ → ChangeKind → List Row
rows_with_change rows name (what.Need until) = with_named (λ row. record row { need = until }) name rows
rows_with_change rows name (what.Replace credential) = with_named (λ row. record row { credential = credential }) name rows
rows_with_change rows name (what.Add added) = rows ++ added ∷ []
rows_with_change rows name what.Drop = without_row name rows

abbrev pub rows_unless : List Row → Option ChangeFault → Result (List Row) ChangeFault
rows_unless rows None = Ok rows
rows_unless rows (Some fault) = Err fault

-- the rows after a change of the entry of that name, or why it cannot be made
unfoldable pub rows_changed : ℕ → List Row → List ℕ → ChangeKind → Result (List Row) ChangeFault
rows_changed margin rows name w = rows_unless (rows_with_change rows name w) (change_refusal margin rows name w)

abbrev pub is_added : ChangeKind → Bool
is_added (what.Need until) = false
is_added (what.Replace credential) = false
is_added (what.Add added) = true
is_added what.Drop = false

abbrev pub takes_memory : ChangeKind → Bool
takes_memory (what.Need until) = false
takes_memory (what.Replace credential) = true
takes_memory (what.Add added) = true
takes_memory what.Drop = false

-- why a change was not made: its refusal, or where there is none, that memory was wanting
abbrev pub IsWhy : Option ChangeFault → ChangeKind → ChangeFault → Type 0
IsWhy refused w fault = (refused ≡ Some fault) ⊎ ((refused ≡ None) × (takes_memory w ≡ true) × (fault ≡ OutOfMemory))
