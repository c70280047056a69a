-- Advice: the line for people that a program may write after a fault line: which file it has not read, and why; or what to write in
-- an inventory.
-- Source: this project's own; the words for what a system says of a file are those of POSIX, `strerror`.
use Rattle.std.specs.Prelude.{ℕ, List, [], ◌∷◌, ◌++◌, Option, Some, None, codes}
use Rattle.std.specs.declared.io.ErrorKind.{ErrorKind}
use Rattle.std.specs.declared.io.ErrorKind.TheVariants as kinds
use Rattle.base_device.specs.Seen.{Change}
use Rattle.plan_forest.specs.Forest.{entry_at}
use Rattle.vault_inventory.specs.{declared.fault.InvFault.InvFault, declared.key.Key.Key, Keys.key_text, Served.Served, Served.first_untold}
use Rattle.vault_inventory.specs.declared.fault.InvFault.TheVariants as inventories
use Rattle.vault_inventory.specs.declared.key.Key.TheVariants as keys
use Rattle.program_report.specs.{FaultLine.before_colon, Sent.IsUntouched, Told.Reports}
use Rattle.program_words.specs.declared.unread.Unread.{Unread}
use Rattle.program_words.specs.declared.unread.Unread.TheVariants as unread

-- the program's name, what the line is about, and what is said of it
unfoldable pub advice_line : List ℕ → List ℕ → List ℕ → List ℕ
advice_line program subject words = before_colon program ++ (before_colon subject ++ (words ++ (10 ∷ [])))

-- the line is told, where there is one; else nothing is
abbrev pub Advises : Option (List ℕ) → Change → Type 0
Advises None errors = IsUntouched errors
Advises (Some line) errors = Reports line errors

-- why a file was not opened, by the system's error
abbrev pub unread_of : ErrorKind → Unread
unread_of kinds.NotFound = unread.NotFound
unread_of kinds.PermissionDenied = unread.NotAllowed
unread_of kinds.IsADirectory = unread.Folder
unread_of kinds.NotADirectory = unread.InNoFolder
unread_of kind = unread.Failed

abbrev pub unread_reason : Unread → List ℕ
unread_reason unread.NotFound = codes "No such file or directory"
unread_reason unread.NotAllowed = codes "Permission denied"
unread_reason unread.Folder = codes "Is a directory"
unread_reason unread.InNoFolder = codes "Not a directory"
unread_reason unread.TooLong = codes "it is too long: an inventory has at most 1 MiB, a certificate at most 16 MiB"
unread_reason unread.Failed = codes "it cannot be read"

-- what is to be written, of a key that a table of an entry lacks, and of a key whose value is none
unfoldable pub missing_words : Key → Option (List ℕ)
missing_words keys.Issued = Some (codes "write both issued and end, or neither: serve and run look them up")
missing_words keys.End = Some (codes "write both issued and end, or neither: serve and run look them up")
missing_words key = None

abbrev pub duration_words : List ℕ
duration_words = codes "write whole seconds, or a duration in quotes with its units, as \"90m\" or \"1h30m\""

abbrev pub moment_words : List ℕ
moment_words = codes "write whole seconds since 1970, or a date in quotes with its offset, as \"2026-11-22T09:00:00Z\""

unfoldable pub value_words : Key → Option (List ℕ)
value_words keys.SystemMax = Some duration_words
value_words keys.Margin = Some (codes "write 1 to 3600 seconds, as a whole number or as a duration in quotes, as \"10m\"")
value_words keys.Increment = Some duration_words
value_words keys.Period = Some duration_words
value_words keys.MaxTtl = Some duration_words
value_words keys.ExplicitMaxTtl = Some duration_words
value_words keys.Issued = Some moment_words
value_words keys.End = Some moment_words
value_words keys.Need = Some (codes "write whole seconds since 1970, a date in quotes with its offset, as \"2026-11-22T09:00:00Z\", or \"always\"")
value_words key = None

-- the line about a key
abbrev pub key_line : List ℕ → Key → Option (List ℕ) → Option (List ℕ)
key_line program key None = None
key_line program key (Some words) = Some (advice_line program (key_text key) words)

-- the line about a fault of an inventory
unfoldable pub fault_advice : List ℕ → InvFault → Option (List ℕ)
fault_advice program (inventories.MissingKey entry key) = key_line program key (missing_words key)
fault_advice program (inventories.BadValue place key) = key_line program key (value_words key)
fault_advice program fault = None

-- the line about the first entry whose table leaves its end to a lookup
abbrev pub open_line_of : List ℕ → Served → Option ℕ → Option (List ℕ)
open_line_of program v None = None
open_line_of program v (Some index) =
    Some (advice_line program (entry_at v.inventory.forest.entries index).name (codes "issued and end are not written; serve and run look them up"))

unfoldable pub open_line : List ℕ → Served → Option (List ℕ)
open_line program v = open_line_of program v (first_untold 0 v.notes)
