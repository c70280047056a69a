-- The run `ends`: which text goes with which exit, and when there is none.
use Rattle.std.specs.Prelude.{◌≡◌, ℕ, List, Some, length}
use Rattle.base_device.specs.Seen.{Change}
use Rattle.plan_rule.specs.{declared.wake.WakeFault.WakeFault, Plans.wake_fault}
use Rattle.program_report.specs.declared.exit.Exit.{Exit}
use Rattle.program_report.specs.declared.exit.Exit.TheVariants as exits
use Rattle.program_report.specs.declared.stop.Stop.TheVariants as stops
use Rattle.plan_commands.specs.EndsText.{IsEndsText, all_asked}
use Rattle.plan_commands.specs.Running.{Halts, RunOf, Texts}
use Rattle.vault_start.specs.Start.{inventory_at}

abbrev pub EndsTexts : ℕ → List ℕ → Texts
EndsTexts s moments g exit text = (exit ≡ exits.Done) × IsEndsText g s moments text

-- the moments are at fault
abbrev pub EndsHalts : ℕ → List ℕ → Halts
EndsHalts s moments g stop = (fault : WakeFault) × (stop ≡ stops.Moments fault) × (wake_fault g.entries s (all_asked (length g.entries) moments) ≡ Some fault)

-- `ends` over the bytes of an inventory, from its start on
abbrev pub EndsRun : List ℕ → ℕ → List ℕ → Exit → Change → Change → Type 0
EndsRun bytes s moments exit out errors = RunOf (EndsTexts s moments) (EndsHalts s moments) (inventory_at s bytes) exit out errors
