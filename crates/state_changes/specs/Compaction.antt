-- Compaction: which records of a journal a later one makes void, whatever the file says.
-- Source: this project's own.
use Rattle.std.specs.Prelude.{ℕ, Bool, true, false, ◌&&◌, if◌then◌else◌, List, [], ◌∷◌, bytes_eq}
use Rattle.std.specs.List.{list_any}
use Rattle.state_changes.specs.{declared.change.Record.Record, declared.change.ChangeKind.ChangeKind}
use Rattle.state_changes.specs.declared.change.Record.TheVariants.{Made, Settling}
use Rattle.state_changes.specs.declared.change.ChangeKind.TheVariants as what

abbrev pub is_need : ChangeKind → Bool
is_need (what.Need until) = true
is_need (what.Replace credential) = false
is_need (what.Add row) = false
is_need what.Drop = false

-- a need of that name, beside that word of the file
abbrev pub is_need_of : List ℕ → List ℕ → Record → Bool
is_need_of name was (Made c) = is_need c.what && (bytes_eq c.name name && bytes_eq c.was was)
is_need_of name was (Settling mark) = false

-- a need is void where it is given again beside the same word of the file
abbrev pub is_void : Record → List Record → Bool
is_void (Made c) later = is_need c.what && list_any (is_need_of c.name c.was) later
is_void (Settling mark) later = false

-- of each record, whether a later one makes it void
unfoldable pub voids : List Record → List Bool
voids [] = []
voids (r ∷ rs) = is_void r rs ∷ voids rs

-- the records that are not taken out
unfoldable pub records_kept : List Record → List Bool → List Record
records_kept [] outs = []
records_kept (r ∷ rs) [] = r ∷ rs
records_kept (r ∷ rs) (out ∷ outs) = if out then records_kept rs outs else r ∷ records_kept rs outs

unfoldable pub compacted : List Record → List Record
compacted rs = records_kept rs (voids rs)
