-- Laws of secrecy. Each is the contract of a public function without a body.
use Rattle.std.specs.Prelude.{◌≡◌, ℕ, List}
use Rattle.state_changes.specs.{declared.change.Change.Change, declared.change.ChangeKind.ChangeKind, declared.fault.ChangeFault.ChangeFault, declared.replaying.NotMadeReason.NotMadeReason}
use Rattle.state_changes.specs.declared.change.ChangeKind.TheVariants as what
use Rattle.state_notes.specs.Lines.{change_fault_text, note_line}

-- the two make the same of an entry, but for its credential
abbrev pub IsSameBut : ChangeKind → ChangeKind → Type 0
IsSameBut (what.Need until) (what.Need other) = until ≡ other
IsSameBut (what.Replace credential) (what.Replace other) = Unit {0}
IsSameBut (what.Add row) (what.Add other) = record row { credential = other.credential } ≡ other
IsSameBut what.Drop what.Drop = Unit {0}
IsSameBut w v = ⊥

-- why a change cannot be made is the same whatever its credential
abbrev pub WhyShowsNone : Type 0
WhyShowsNone = (margin : ℕ) (name : List ℕ) (w v : ChangeKind) (fault : ChangeFault) → IsSameBut w v → change_fault_text margin name w fault ≡ change_fault_text margin name v fault

-- and so is the line about one of a journal, whatever the file said when it was made
abbrev pub NoteShowsNone : Type 0
NoteShowsNone = (margin : ℕ) (c d : Change) (why : NotMadeReason) → c.name ≡ d.name → IsSameBut c.what d.what → note_line margin c why ≡ note_line margin d why
