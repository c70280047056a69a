-- Obeys: what each command of the program does with its files.
-- Source: this project's own.
use Rattle.std.specs.Prelude.{ℕ, Bool, true, false, List, string_bytes}
use Rattle.base_device.specs.Seen.{Change}
use Rattle.program_report.specs.declared.exit.Exit.{Exit}
use Rattle.plan_commands.specs.{declared.command.PlanCommand.PlanCommand, CheckRun.CheckRun, EndsRun.EndsRun, From.RunFrom, MarginRun.MarginRun, PlanDates.PlanDatesRun, PlanRun.PlanRun, ReachRun.ReachRun}
use Rattle.plan_commands.specs.declared.command.PlanCommand.TheVariants as commands
use Rattle.vault_inventory.specs.declared.limits.TheConstants.{MOST_INVENTORY}
use Rattle.plan_certificate.specs.declared.cert.TheConstants.{MOST_CERTIFICATE}
use Rattle.base_files.specs.Files.{Files}

-- the path of a command's inventory
abbrev pub path_of_command : PlanCommand → List ℕ
path_of_command (commands.Ends file start moments) = string_bytes file
path_of_command (commands.Plan file start dates) = string_bytes file
path_of_command (commands.Margin file query) = string_bytes file
path_of_command (commands.Reach file start dates) = string_bytes file
path_of_command (commands.Check file certificate start) = string_bytes file

-- a plan, as its certificate or in dates
abbrev pub PlanIn : Bool → List ℕ → ℕ → Exit → Change → Change → Type 0
PlanIn false bytes start exit out errors = PlanRun bytes start exit out errors
PlanIn true bytes start exit out errors = PlanDatesRun bytes start exit out errors

-- what it does over the bytes of that; `check` reads its certificate
abbrev pub ObeysOver : PlanCommand → Files → List ℕ → Exit → Change → Change → Type 0
ObeysOver (commands.Ends file start moments) files bytes exit out errors = EndsRun bytes start moments.items exit out errors
ObeysOver (commands.Plan file start dates) files bytes exit out errors = PlanIn dates bytes start exit out errors
ObeysOver (commands.Margin file query) files bytes exit out errors = MarginRun bytes query exit out errors
ObeysOver (commands.Reach file start dates) files bytes exit out errors = ReachRun bytes start dates exit out errors
ObeysOver (commands.Check file certificate start) files bytes exit out errors = RunFrom (files (string_bytes certificate)) MOST_CERTIFICATE (λ text. CheckRun bytes text start) exit out errors

-- each reads its inventory first
abbrev pub Obeys : PlanCommand → Files → Exit → Change → Change → Type 0
Obeys command files exit out errors = RunFrom (files (path_of_command command)) MOST_INVENTORY (λ bytes. ObeysOver command files bytes) exit out errors
