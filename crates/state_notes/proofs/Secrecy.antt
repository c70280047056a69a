-- What is said of a change hangs on its name and on keys of what it changes, and not on its credential.
use Rattle.std.proofs.Common.{◌≡◌, ℕ, List, refl, ap}
use Rattle.state_changes.specs.{declared.change.Change.Change, declared.change.ChangeKind.ChangeKind, declared.fault.ChangeFault.ChangeFault, declared.replaying.NotMadeReason.NotMadeReason}
use Rattle.state_changes.specs.declared.replaying.NotMadeReason.TheVariants.{FileWins, Refused}
use Rattle.state_changes.specs.declared.change.ChangeKind.TheVariants as what
use Rattle.state_notes.specs.Laws.{IsSameBut}
use Rattle.state_notes.specs.Lines.{change_fault_text, change_word, note_line, over_words, reason_text, step_words, twice_words}

-- the words that are said of the two are the same: the token over it, the step, a credential that is there twice, and the change
keys_same : (w v : ChangeKind) → IsSameBut w v → (over_words w ≡ over_words v) × (step_words w ≡ step_words v) × (twice_words w ≡ twice_words v) × (change_word w ≡ change_word v)
keys_same (what.Need until) (what.Need other) h = (refl, refl, refl, refl)
keys_same (what.Replace credential) (what.Replace other) h = (refl, refl, refl, refl)
keys_same (what.Add row) (what.Add other) h = (ap (λ r. over_words (what.Add r)) h, ap (λ r. step_words (what.Add r)) h, refl, refl)
keys_same what.Drop what.Drop h = (refl, refl, refl, refl)
keys_same _ _ h = elim h [ ]

pub why_shows_none : (margin : ℕ) (name : List ℕ) (w v : ChangeKind) (fault : ChangeFault) → IsSameBut w v → change_fault_text margin name w fault ≡ change_fault_text margin name v fault
why_shows_none margin name w v fault h =
    let same = keys_same w v h in
    rw same.0 (rw same.1 (rw same.2 refl))

reason_same : (margin : ℕ) (c d : Change) (why : NotMadeReason) → c.name ≡ d.name → IsSameBut c.what d.what → reason_text margin c why ≡ reason_text margin d why
reason_same margin c d FileWins e h = refl
reason_same margin c d (Refused fault) e h = rw e (why_shows_none margin d.name c.what d.what fault h)

pub note_shows_none : (margin : ℕ) (c d : Change) (why : NotMadeReason) → c.name ≡ d.name → IsSameBut c.what d.what → note_line margin c why ≡ note_line margin d why
unfolding note_line
note_shows_none margin c d why e h = rw (reason_same margin c d why e h) (rw ((keys_same c.what d.what h).3) (rw e refl))
