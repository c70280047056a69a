-- Lines: what is said of a change that cannot be made, and of one of a journal that was not made again.
-- Source: this project's own.
use Rattle.std.specs.Prelude.{ℕ, ◌==◌, if◌then◌else◌, List, ◌++◌, codes, decimal}
use Rattle.plan_forest.specs.Push.{is_lease}
use Rattle.state_changes.specs.{declared.change.Change.Change, declared.change.ChangeKind.ChangeKind, declared.fault.ChangeFault.ChangeFault, declared.replaying.NotMadeReason.NotMadeReason}
use Rattle.state_changes.specs.declared.fault.ChangeFault.TheVariants.{NoEntry, NameTwice, NoParent, ParentIsLease, StepTooSmall, TooDeep, Full, CredentialTwice, InFile, HasUnder, OutOfMemory}
use Rattle.state_changes.specs.declared.replaying.NotMadeReason.TheVariants.{FileWins, Refused}
use Rattle.state_changes.specs.declared.change.ChangeKind.TheVariants as what

-- the key by which an entry that is added names the token over it
abbrev pub over_words : ChangeKind → List ℕ
over_words (what.Add row) = if is_lease row.kind then codes " token: " else codes " parent: "
over_words w = codes " parent: "

-- the key of what its renewal would ask for
abbrev pub step_words : ChangeKind → List ℕ
step_words (what.Add row) = if row.terms.period == 0 then codes " increment: " else codes " period: "
step_words w = codes " increment: "

abbrev pub twice_words : ChangeKind → List ℕ
twice_words (what.Add row) = codes " is not added"
twice_words w = codes " keeps its own"

unfoldable pub margin_text : ℕ → List ℕ
margin_text margin = codes "is not greater than the margin of " ++ (decimal margin ++ codes " s")

-- why a change of the entry of that name cannot be made within that margin. Of what is changed it knows the keys alone
abbrev pub why_by : ℕ → List ℕ → List ℕ → List ℕ → List ℕ → ChangeFault → List ℕ
why_by margin name over step twice NoEntry = codes "no entry is named " ++ name
why_by margin name over step twice NameTwice = codes "an entry is named " ++ (name ++ codes " already")
why_by margin name over step twice NoParent = name ++ (over ++ codes "names no token of this inventory")
why_by margin name over step twice ParentIsLease = name ++ (over ++ codes "names a lease")
why_by margin name over step twice StepTooSmall = name ++ (step ++ margin_text margin)
why_by margin name over step twice TooDeep = name ++ (over ++ codes "is the 65th of its chain")
why_by margin name over step twice Full = codes "there are 4096 entries already, and no more are allowed"
why_by margin name over step twice CredentialTwice = codes "another entry has that credential already; " ++ (name ++ twice)
why_by margin name over step twice InFile = name ++ codes " has its credential in a file: write it there"
why_by margin name over step twice HasUnder = name ++ codes " has entries under it: drop them first"
why_by margin name over step twice OutOfMemory = codes "out of memory"

abbrev pub change_fault_text : ℕ → List ℕ → ChangeKind → ChangeFault → List ℕ
change_fault_text margin name w fault = why_by margin name (over_words w) (step_words w) (twice_words w) fault

abbrev pub change_word : ChangeKind → List ℕ
change_word (what.Need until) = codes "need "
change_word (what.Replace credential) = codes "replace "
change_word (what.Add row) = codes "add "
change_word what.Drop = codes "drop "

abbrev pub reason_text : ℕ → Change → NotMadeReason → List ℕ
reason_text margin c FileWins = codes "the file has changed since, and wins"
reason_text margin c (Refused fault) = change_fault_text margin c.name c.what fault

-- the line about a change of a journal that was not made again
unfoldable pub note_line : ℕ → Change → NotMadeReason → List ℕ
note_line margin c why = change_word c.what ++ (c.name ++ (codes ": " ++ reason_text margin c why))
