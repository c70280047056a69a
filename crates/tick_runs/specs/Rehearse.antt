-- The run `rehearse`: what it has written, the table and the wire that it leaves, and when it gives which exit.
-- Source: this project's own.
use Rattle.std.specs.Prelude.{◌≡◌, ℕ, ◌⊎◌, List, [], ◌++◌, Option, Some, None, Result, Ok, Err}
use Rattle.base_device.specs.{Seen.Change, Seen.ReceivesFront, Failures.HasFailed}
use Rattle.vault_inventory.specs.{declared.fault.InvFault.InvFault, Inventories.Inventory}
use Rattle.broker_rule.specs.{declared.fault.NumberedFault.NumberedFault, Rows.broker_rows}
use Rattle.vault_exchange.specs.Exchanges.{Behind}
use Rattle.tick_keeper.specs.Replan.{ReplanTooLong}
use Rattle.program_report.specs.{declared.exit.Exit.Exit, declared.stop.Stop.Stop, FaultLine.line_of_stop, FaultLine.own_name, Sent.IsAll, Sent.IsUntouched, Told.Reports, Told.Told}
use Rattle.program_report.specs.declared.exit.Exit.TheVariants as exits
use Rattle.program_report.specs.declared.stop.Stop.TheVariants as stops
use Rattle.tick_runs.specs.{FaultWords.faults_of, Stops.RunIsStopped, Stops.SoFar, Text.course_text, Text.done_text}
use Rattle.tick_runs.specs.Closed.{IsClosedRun, RunCourse, World}

-- the inventory and the FAULT words are read
pub record IsCalled (answer : Result Inventory InvFault) (words : List (List ℕ)) (inventory : Inventory) (faults : List NumberedFault) : Type 0 where
  pub read : answer ≡ Ok inventory
  pub faults_are : faults_of words ≡ Ok faults

-- the lines of a run so far, or all of them with the last one
pub record IsRunText (inventory : Inventory) (faults : List NumberedFault) (start : ℕ) (text : List ℕ) : Type 0 where
  pub final : World
  pub next : Option ℕ
  pub wakes : ℕ
  pub asked : ℕ
  pub lines : List ℕ
  pub so_far : SoFar inventory faults start final next wakes asked lines
  pub text_is : (text ≡ lines) ⊎ ((next ≡ None) × (text ≡ lines ++ done_text wakes asked))

-- no more than a front of the lines of the run was written
abbrev pub WritesFront : Result Inventory InvFault → ℕ → List (List ℕ) → Change → Type 0
WritesFront answer start words out =
    (inventory : Inventory) × (faults : List NumberedFault) × IsCalled answer words inventory faults × (text : List ℕ) × IsRunText inventory faults start text × ReceivesFront text out

-- the inventory's table with these faults, and nothing carried yet
abbrev pub fresh_broker : Inventory → List NumberedFault → Behind
fresh_broker inventory faults = record { table = record { rows = broker_rows inventory; faults = faults; count = 0 }; wire = [] }

-- the plan of the opening is too long, and nothing was written; or the lines of 100,000 wake-ups were, and another is due
abbrev pub RunsLong : Inventory → List NumberedFault → ℕ → Change → Behind → Type 0
RunsLong inventory faults start out behind =
    (ReplanTooLong inventory.forest start × IsUntouched out × (behind ≡ fresh_broker inventory faults))
    ⊎ ((final : World) × (text : List ℕ) × RunIsStopped inventory faults start final text × IsAll text out × (final.behind ≡ Some behind))

-- `rehearse` by what is read of the bytes of an inventory, a start and FAULT words, by exit
abbrev pub RehearseRun : Result Inventory InvFault → ℕ → List (List ℕ) → Exit → Change → Behind → Behind → Type 0
RehearseRun answer start words exits.Done out old new =
    (inventory : Inventory) × (faults : List NumberedFault) × IsCalled answer words inventory faults
    × (course : RunCourse) × (final : World) × IsClosedRun inventory faults start course final × IsAll (course_text inventory course) out × (final.behind ≡ Some new)
RehearseRun answer start words exits.Inventory out old new = (fault : InvFault) × (answer ≡ Err fault) × IsUntouched out × (new ≡ old)
RehearseRun answer start words exits.CommandLine out old new =
    (inventory : Inventory) × (answer ≡ Ok inventory) × (position : ℕ) × (faults_of words ≡ Err position) × IsUntouched out × (new ≡ old)
RehearseRun answer start words exits.TooLong out old new = (inventory : Inventory) × (faults : List NumberedFault) × IsCalled answer words inventory faults × RunsLong inventory faults start out new
RehearseRun answer start words exits.Device out old new = HasFailed out.old.failed_calls out.new.failed_calls × WritesFront answer start words out
RehearseRun answer start words exits.Memory out old new = IsUntouched out ⊎ WritesFront answer start words out
RehearseRun answer start words exit out old new = ⊥

-- what it has told of its end, by exit
abbrev pub RehearseTold : Result Inventory InvFault → List (List ℕ) → Exit → Change → Type 0
RehearseTold answer words exits.CommandLine errors = (position : ℕ) × (faults_of words ≡ Err position) × Reports (line_of_stop (stops.FaultWord position)) errors
RehearseTold answer words exit errors = Told own_name answer exit errors

-- the same without its fault line, by what stops it
abbrev pub RehearsesTo : Result Inventory InvFault → ℕ → List (List ℕ) → Result (Unit {0}) Stop → Change → Behind → Behind → Type 0
RehearsesTo answer start words (Ok u) out old new = RehearseRun answer start words exits.Done out old new
RehearsesTo answer start words (Err (stops.Inventory fault)) out old new = (answer ≡ Err fault) × IsUntouched out × (new ≡ old)
RehearsesTo answer start words (Err (stops.FaultWord position)) out old new = (inventory : Inventory) × (answer ≡ Ok inventory) × (faults_of words ≡ Err position) × IsUntouched out × (new ≡ old)
RehearsesTo answer start words (Err stops.TooLong) out old new = RehearseRun answer start words exits.TooLong out old new
RehearsesTo answer start words (Err stops.Write) out old new = RehearseRun answer start words exits.Device out old new
RehearsesTo answer start words (Err stops.Memory) out old new = RehearseRun answer start words exits.Memory out old new
RehearsesTo answer start words (Err stop) out old new = ⊥
