-- Words for the parts of a run: what is made before the first write, and its delivery. No public clause cites them.
use Rattle.std.specs.Prelude.{◌≡◌, ◌⊎◌, ℕ, List, Result, Ok, Err, slice_index}
use Rattle.base_device.specs.Seen.{Change}
use Rattle.base_moment.specs.declared.text.Text.{Text}
use Rattle.plan_forest.specs.{declared.entry.Entry.Entry, Forest.Forest}
use Rattle.plan_search.specs.declared.decision.Decision.{Decision}
use Rattle.plan_search.specs.declared.decision.Decision.TheVariants as decision
use Rattle.vault_inventory.specs.{declared.fault.InvFault.InvFault, Inventories.Inventory}
use Rattle.program_report.specs.{declared.exit.Exit.Exit, declared.stop.Stop.Stop, Exits.exit_of, Told.Reports, FaultLine.line_of_stop}
use Rattle.program_report.specs.Sent.{IsAll, IsUntouched, SendsText}
use Rattle.program_report.specs.declared.exit.Exit.TheVariants as exits
use Rattle.program_report.specs.declared.stop.Stop.TheVariants as stops
use Rattle.plan_commands.specs.{declared.outcome.Outcome.Outcome, PlanDates.AreRunsInDates, PlanDates.IsPairInDates, Running.Halts, Running.Texts}

-- what a command makes of a forest
abbrev pub MakesOf : Texts → Halts → Forest → Result Outcome Stop → Type 0
MakesOf Written Halt g (Ok outcome) = Written g outcome.exit outcome.text
MakesOf Written Halt g (Err stops.Memory) = Unit {0}
MakesOf Written Halt g (Err stop) = Halt g stop

-- what it makes of what was read
abbrev pub MakesOutcome : Texts → Halts → Result Inventory InvFault → Result Outcome Stop → Type 0
MakesOutcome Written Halt answer (Err (stops.Inventory fault)) = answer ≡ Err fault
MakesOutcome Written Halt answer (Err stops.Memory) = Unit {0}
MakesOutcome Written Halt answer made = (inventory : Inventory) × (answer ≡ Ok inventory) × MakesOf Written Halt inventory.forest made

-- a text was sent, or why only a front of it was; or why there is none was told
abbrev pub Delivers : Result Outcome Stop → Exit → Change → Change → Type 0
Delivers (Ok outcome) exit out errors =
    ((exit ≡ outcome.exit) × IsAll outcome.text out × IsUntouched errors)
    ⊎ ((stop : Stop) × SendsText (Err stop) outcome.text out × (exit ≡ exit_of stop) × Reports (line_of_stop stop) errors)
Delivers (Err stop) exit out errors = (exit ≡ exit_of stop) × IsUntouched out × Reports (line_of_stop stop) errors

-- a list of ends as the function from an index to its end
unfoldable pub at_index : List ℕ → ℕ → ℕ
at_index ends i = slice_index ends i

-- the exit that goes with a decision
abbrev pub decided_exit : Decision → Exit
decided_exit (decision.Keep p) = exits.Done
decided_exit (decision.Unkeepable entry needed) = exits.Unkeepable
decided_exit decision.TooLong = exits.TooLong

-- the text in dates of a decision over these entries
abbrev pub IsInDatesOf : List Entry → ℕ → Decision → List ℕ → Type 0
IsInDatesOf es s (decision.Keep p) text = AreRunsInDates es s p.runs text
IsInDatesOf es s (decision.Unkeepable entry needed) text = IsPairInDates es s entry needed text
IsInDatesOf es s decision.TooLong text = ⊥

-- there is none where each plan is too long, or where memory was refused
abbrev pub DatesOf : List Entry → ℕ → Result Text Stop → Decision → Type 0
DatesOf es s (Ok text) d = IsInDatesOf es s d text
DatesOf es s (Err stops.TooLong) d = d ≡ decision.TooLong
DatesOf es s (Err stops.Memory) d = Unit {0}
DatesOf es s (Err stop) d = ⊥
