-- Reasons: why a change is not kept, or a file is not what is kept, in words for the one who asked. No credential is in any of them.
-- Source: this project's own.
use Rattle.std.specs.Prelude.{ℕ, Bool, true, false, List, ◌++◌, codes, decimal}
use Rattle.state_changes.specs.{declared.change.ChangeKind.ChangeKind, declared.row.Row.Row}
use Rattle.base_disk.specs.declared.fault.DiskFault.{DiskFault}
use Rattle.vault_inventory.specs.Keys.{key_text}
use Rattle.state_notes.specs.Lines.{change_fault_text}
use Rattle.program_report.specs.FaultLine.{inventory_words, tree_word}
use Rattle.state_file.specs.declared.fault.SettleFault.{SettleFault}
use Rattle.state_file.specs.declared.fault.SettleFault.TheVariants as settling
use Rattle.state_keeping.specs.{declared.fault.SettleWhy.SettleWhy, declared.fault.TableFault.TableFault}
use Rattle.state_keeping.specs.declared.fault.SettleWhy.TheVariants as settles
use Rattle.state_keeping.specs.declared.fault.TableFault.TheVariants as tables
use Rattle.state_store.specs.{declared.fault.FileFault.FileFault, declared.fault.TakeFault.TakeFault}
use Rattle.state_store.specs.declared.fault.FileFault.TheVariants as files
use Rattle.state_store.specs.declared.fault.TakeFault.TheVariants as takes
use Rattle.plan_forest.specs.Push.{is_lease}
use Rattle.agent_words.specs.Reasons.{disk_words, unread_words}

-- why no file says what rows say
abbrev pub written_words : SettleFault → List ℕ
written_words settling.TooLong = codes "the inventory would be over 1048576 bytes, more than any program reads"
written_words (settling.Refused fault) = codes "it would be no inventory: " ++ inventory_words fault
written_words settling.Differs = codes "no table writes such an entry"
written_words settling.OutOfMemory = codes "out of memory"

-- why a change of the entry of that name is not taken
abbrev pub take_words : ℕ → List ℕ → ChangeKind → TakeFault → List ℕ
take_words margin name w takes.Unread = codes "a restart may read another file: reload it first"
take_words margin name w takes.NoRecord = codes "no journal can write it"
take_words margin name w (takes.Refused fault) = change_fault_text margin name w fault
take_words margin name w (takes.Unwritten fault) = written_words fault
take_words margin name w (takes.Disk fault) = codes "it cannot be kept: " ++ disk_words fault
take_words margin name w (takes.Unsure fault) = codes "it may hold after a restart or not: " ++ disk_words fault
take_words margin name w takes.OutOfMemory = codes "out of memory"

-- why FILE does not become what is kept
abbrev pub settle_words : SettleWhy → List ℕ
settle_words (settles.Unread fault) = unread_words fault
settle_words settles.Changed = codes "the file has changed since it was read: reload it first"
settle_words (settles.Unwritten fault) = written_words fault
settle_words (settles.Disk fault) = codes "it cannot be written: " ++ disk_words fault
settle_words settles.OutOfMemory = codes "out of memory"

-- why the journal was left as it was once FILE says all that is kept
abbrev pub left_over_words : DiskFault → List ℕ
left_over_words fault = codes "the file is written, but the journal is left as it was: " ++ disk_words fault

-- why a table is no entry
abbrev pub table_words : TableFault → List ℕ
table_words tables.NotToml = codes "the table is no TOML"
table_words tables.NotOne = codes "give one table [[token]] or [[lease]]"
table_words (tables.Missing key) = key_text key ++ codes ": is not there; write it"
table_words tables.Unknown = codes "the table has a key that no entry has"
table_words (tables.Bad key) = key_text key ++ codes ": is of the wrong type or out of range"
table_words (tables.Tree fault) = codes "no inventory has such an entry: " ++ tree_word fault
table_words tables.OutOfMemory = codes "out of memory"

-- an entry has no credential
abbrev pub bare_word : Bool → List ℕ
bare_word true = codes ": lease_id: is not written; write it"
bare_word false = codes ": secret: is not written; write it"

abbrev pub bare_words : Row → List ℕ
bare_words row = row.name ++ bare_word (is_lease row.kind)

-- why FILE is not served with the changes of the journal
abbrev pub book_words : FileFault → List ℕ
book_words files.Unread = codes "cannot be had"
book_words (files.Faulty fault) = inventory_words fault
book_words (files.Unwritten fault) = codes "with the changes of the journal: " ++ written_words fault
book_words files.OutOfMemory = codes "out of memory"

-- how many more changes of the journal are not made any more
abbrev pub left_words : ℕ → List ℕ
left_words left = decimal left ++ codes " more changes do not hold"
