-- A change that is refused leaves a note of its refusal.
use Rattle.std.proofs.Common.{◌≡◌, ◌≢◌, ◌++◌, ℕ, Option, Some, ap, inl, inr}
use Rattle.state_changes.specs.{declared.change.Change.Change, declared.change.ChangeKind.ChangeKind, declared.fault.ChangeFault.ChangeFault, declared.fault.ChangeFault.TheVariants.OutOfMemory}
use Rattle.state_changes.specs.Changes.{IsWhy, change_refusal, rows_changed, rows_unless, rows_with_change}
use Rattle.state_changes.specs.Replay.{ReplayState, made, made_with, refused_note}

why_refused : (o : Option ChangeFault) (w : ChangeKind) (fault : ChangeFault) → IsWhy o w fault → fault ≢ OutOfMemory → o ≡ Some fault
why_refused o w fault (inl e) some = e
why_refused o w fault (inr e) some = absurd (some e.2)

pub refused_made : (margin at : ℕ) (s : ReplayState) (c : Change) (fault : ChangeFault) → IsWhy (change_refusal margin s.rows c.name c.what) c.what fault → fault ≢ OutOfMemory
    → made margin at s c ≡ record { rows = s.rows; notes = s.notes ++ refused_note at fault }
unfolding made rows_changed
refused_made margin at s c fault why some =
    ap (λ (o : Option ChangeFault). made_with at s (rows_unless (rows_with_change s.rows c.name c.what) o)) (why_refused (change_refusal margin s.rows c.name c.what) c.what fault why some)
