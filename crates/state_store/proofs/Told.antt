-- A change that is not taken tells exactly what the disk has met. For `take`.
use Rattle.std.proofs.Common.{◌≡◌, ℕ, List, Bool, true, false, Err, refl, sym, ap, subst, ◌∙◌}
use Rattle.base_device.specs.Failures.{one_more}
use Rattle.base_disk.specs.declared.fault.DiskFault.{DiskFault}
use Rattle.base_disk.specs.State.{DiskState, IsNotTooLong, TellsFailure}
use Rattle.base_disk.specs.declared.fault.DiskFault.TheVariants.{Failed, TooLong}
use Rattle.base_disk.specs.declared.fault.DiskFault.TheVariants as disks
use Rattle.state_changes.specs.{declared.change.Change.Change, declared.change.ChangeKind.ChangeKind}
use Rattle.state_store.specs.{declared.fault.TakeFault.TakeFault, Books.Book, Entering.FaultTellsDisk, Entering.FaultTellsLength, code.Entered.IsUnmade, code.Entered.IsUnrecorded}
use Rattle.state_store.specs.declared.fault.TakeFault.TheVariants.{Unread, NoRecord, Refused, Unwritten, Disk, Unsure, OutOfMemory}
use Rattle.state_store.specs.code.Faults.{IsOfNoDisk, IsOfNoLength, unkept}
use Rattle.base_journal.specs.Journals.{TellsLength}
use Rattle.base_journal.proofs.Steps.{not_long}

-- ---- what a call of the disk tells

pub told : (s t : DiskState) (fault : DiskFault) (may_have : Bool) → TellsFailure {X = Unit {0}} s t (Err fault) → FaultTellsDisk s t (unkept fault may_have)
told s t fault true tells = tells
told s t (Failed why) false tells = tells
told s t TooLong false tells = tells
told s t disks.OutOfMemory false tells = tells

-- and so after calls that did not fail
pub told_past : (s t u : DiskState) (fault : DiskFault) (may_have : Bool) → t.faults ≡ s.faults → TellsFailure {X = Unit {0}} t u (Err fault) → FaultTellsDisk s u (unkept fault may_have)
told_past s t u (Failed why) may_have same tells = told s u (Failed why) may_have (tells.0 ∙ ap one_more same, tells.1)
told_past s t u TooLong may_have same tells = told s u TooLong may_have (tells ∙ same)
told_past s t u disks.OutOfMemory may_have same tells = told s u disks.OutOfMemory may_have (tells ∙ same)

-- ---- no call was made

pub alone_told : (s : DiskState) (fault : TakeFault) → IsOfNoDisk fault → FaultTellsDisk s s fault
alone_told s Unread alone = refl
alone_told s NoRecord alone = refl
alone_told s (Refused fault) alone = refl
alone_told s (Unwritten fault) alone = refl
alone_told s (Disk fault) alone = absurd alone
alone_told s (Unsure fault) alone = absurd alone
alone_told s OutOfMemory alone = refl

pub unread_alone : (s : DiskState) (fault : TakeFault) → fault ≡ Unread → FaultTellsDisk s s fault
unread_alone s fault same = subst (FaultTellsDisk s s) (sym same) refl

pub unrecorded_alone : (b : Book) (name : List ℕ) (w : ChangeKind) (fault : TakeFault) → IsUnrecorded b name w fault → IsOfNoDisk fault
unrecorded_alone b name w Unread why = tt
unrecorded_alone b name w NoRecord why = tt
unrecorded_alone b name w (Refused fault) why = tt
unrecorded_alone b name w (Unwritten fault) why = tt
unrecorded_alone b name w (Disk fault) why = absurd why
unrecorded_alone b name w (Unsure fault) why = absurd why
unrecorded_alone b name w OutOfMemory why = tt

pub unmade_alone : (b : Book) (c : Change) (fault : TakeFault) → IsUnmade b c fault → IsOfNoDisk fault
unmade_alone b c Unread why = tt
unmade_alone b c NoRecord why = tt
unmade_alone b c (Refused fault) why = tt
unmade_alone b c (Unwritten fault) why = tt
unmade_alone b c (Disk fault) why = absurd why
unmade_alone b c (Unsure fault) why = absurd why
unmade_alone b c OutOfMemory why = tt

-- ---- that the journal would be too long

pub long_told : (size : ℕ) (fault : DiskFault) (may_have : Bool) → TellsLength size fault → FaultTellsLength size (unkept fault may_have)
long_told size fault true tells = tells
long_told size (Failed why) false tells = tt
long_told size TooLong false tells = tells
long_told size disks.OutOfMemory false tells = tt

-- no file is too long
pub short : (fault : DiskFault) (may_have : Bool) → IsNotTooLong fault → IsOfNoLength (unkept fault may_have)
short fault true is = is
short (Failed why) false is = tt
short TooLong false is = is
short disks.OutOfMemory false is = tt

pub short_told : (size : ℕ) (fault : TakeFault) → IsOfNoLength fault → FaultTellsLength size fault
short_told size Unread is = tt
short_told size NoRecord is = tt
short_told size (Refused fault) is = tt
short_told size (Unwritten fault) is = tt
short_told size (Disk fault) is = not_long size fault is
short_told size (Unsure fault) is = not_long size fault is
short_told size OutOfMemory is = tt

-- no call was made
pub alone_long : (size : ℕ) (fault : TakeFault) → IsOfNoDisk fault → FaultTellsLength size fault
alone_long size Unread alone = tt
alone_long size NoRecord alone = tt
alone_long size (Refused fault) alone = tt
alone_long size (Unwritten fault) alone = tt
alone_long size (Disk fault) alone = absurd alone
alone_long size (Unsure fault) alone = absurd alone
alone_long size OutOfMemory alone = tt

pub unread_long : (size : ℕ) (fault : TakeFault) → fault ≡ Unread → FaultTellsLength size fault
unread_long size fault same = subst (FaultTellsLength size) (sym same) tt
