-- Refusals: command lines that ask nothing: how the program ends, what it writes, and what it tells on its device for fault lines.
-- Source: this project's own; the kinds of mistake are those of clap.
use Rattle.std.specs.Prelude.{◌≡◌, ◌⊎◌, ℕ, List, Result, Ok, Err, codes}
use Rattle.clap.specs.declared.error.kind.ErrorKind.{ErrorKind}
use Rattle.clap.specs.declared.error.kind.ErrorKind.TheVariants as kinds
use Rattle.base_device.specs.Seen.{Change}
use Rattle.program_report.specs.{declared.exit.Exit.Exit, FaultLine.fault_line, Told.Reports}
use Rattle.program_report.specs.Sent.{IsAll, IsUntouched, SendsText}
use Rattle.program_report.specs.declared.exit.Exit.TheVariants as exits
use Rattle.program_report.specs.declared.stop.Stop.TheVariants as stops

-- the words are there, and nothing is told; or one is not UTF-8, or memory was refused, and the line of that is told
abbrev pub GivesWords : {X : Type 0} → List ℕ → Result X Exit → Change → Type 0
GivesWords program (Ok words) errors = IsUntouched errors
GivesWords program (Err exits.CommandLine) errors = Reports (codes "error: a word of the command line is not UTF-8\n") errors
GivesWords program (Err exits.Memory) errors = Reports (fault_line program stops.Memory) errors
GivesWords program (Err exit) errors = ⊥

-- a text that was asked for is written and flushed, and nothing is told; or it was not, and why is told
abbrev pub SaysAsked : List ℕ → List ℕ → Exit → Change → Change → Type 0
SaysAsked program text exits.Done out errors = IsAll text out × IsUntouched errors
SaysAsked program text exits.Device out errors = SendsText (Err stops.Write) text out × Reports (fault_line program stops.Write) errors
SaysAsked program text exits.Memory out errors = SendsText (Err stops.Memory) text out × Reports (fault_line program stops.Memory) errors
SaysAsked program text exit out errors = ⊥

-- by what the parser found: the text of help and of the version was asked for, memory was refused, and the text of every other
-- kind tells a mistake
abbrev pub SaysWhatWasFound : List ℕ → ErrorKind → List ℕ → Exit → Change → Change → Type 0
SaysWhatWasFound program kinds.DisplayHelp text exit out errors = SaysAsked program text exit out errors
SaysWhatWasFound program kinds.DisplayVersion text exit out errors = SaysAsked program text exit out errors
SaysWhatWasFound program kinds.OutOfMemory text exit out errors = (exit ≡ exits.Memory) × IsUntouched out × Reports (fault_line program stops.Memory) errors
SaysWhatWasFound program kind text exit out errors = (exit ≡ exits.CommandLine) × IsUntouched out × Reports text errors

-- some text is said; or memory for it was refused, and that is told
abbrev pub ShowsRefusal : List ℕ → ErrorKind → Exit → Change → Change → Type 0
ShowsRefusal program kind exit out errors =
    ((text : List ℕ) × SaysWhatWasFound program kind text exit out errors) ⊎ ((exit ≡ exits.Memory) × IsUntouched out × Reports (fault_line program stops.Memory) errors)
