-- The run `reach`: which text goes with which exit.
use Rattle.std.specs.Prelude.{◌≡◌, ℕ, Bool, List}
use Rattle.base_device.specs.Seen.{Change}
use Rattle.program_report.specs.declared.exit.Exit.{Exit}
use Rattle.program_report.specs.declared.exit.Exit.TheVariants as exits
use Rattle.plan_commands.specs.ReachText.{IsReachText}
use Rattle.plan_commands.specs.Running.{NoHalts, RunOf, Texts}
use Rattle.vault_start.specs.Start.{inventory_at}

abbrev pub ReachTexts : ℕ → Bool → Texts
ReachTexts s dates g exit text = (exit ≡ exits.Done) × IsReachText g s dates text

-- `reach` over the bytes of an inventory, from its start on
abbrev pub ReachRun : List ℕ → ℕ → Bool → Exit → Change → Change → Type 0
ReachRun bytes s dates exit out errors = RunOf (ReachTexts s dates) NoHalts (inventory_at s bytes) exit out errors
