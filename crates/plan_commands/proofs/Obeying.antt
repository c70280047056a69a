-- Obeying: from a run over the bytes of a file to one over the file, for `obey`.
use Rattle.std.proofs.Common.{◌≡◌, ℕ, List, Option, Ok, String, Global, string_bytes, subst, sym, inl}
use Rattle.base_device.specs.Seen.{Change}
use Rattle.plan_commands.specs.{declared.command.PlanCommand.PlanCommand, CheckRun.CheckRun, From.RunFrom, Obeys.ObeysOver}
use Rattle.plan_commands.specs.declared.command.PlanCommand.TheVariants as commands
use Rattle.plan_certificate.specs.declared.cert.TheConstants.{MOST_CERTIFICATE}
use Rattle.program_report.specs.declared.exit.Exit.{Exit}
use Rattle.base_files.specs.Files.{FileIsRead, Files}

pub run_read : (known : Option (List ℕ)) (max : ℕ) (Over : List ℕ → Exit → Change → Change → Type 0) (exit : Exit) (out errors : Change) (read bytes : List ℕ) → FileIsRead known max (Ok read) → bytes ≡ read → Over bytes exit out errors → RunFrom known max Over exit out errors
run_read known max Over exit out errors read bytes is same run = inl (read, is, subst (λ (b : List ℕ). Over b exit out errors) same run)

-- what is done depends on the files only path by path
pub over_same : (command : PlanCommand) (files now : Files) (bytes : List ℕ) (exit : Exit) (out errors : Change) → ((path : List ℕ) → now path ≡ files path) → ObeysOver command now bytes exit out errors → ObeysOver command files bytes exit out errors
over_same (commands.Check file certificate start) files now bytes exit out errors same run =
    subst (λ (known : Option (List ℕ)). RunFrom known MOST_CERTIFICATE (λ text. CheckRun bytes text start) exit out errors) (same (string_bytes certificate)) run
over_same _ files now bytes exit out errors same run = run

pub checks : (command : PlanCommand) (file certificate : String Global) (start : Option ℕ) (files : Files) (bytes : List ℕ) (exit : Exit) (out errors : Change) → command ≡ commands.Check file certificate start → RunFrom (files (string_bytes certificate)) MOST_CERTIFICATE (λ text. CheckRun bytes text start) exit out errors → ObeysOver command files bytes exit out errors
checks command file certificate start files bytes exit out errors is run = subst (λ (c : PlanCommand). ObeysOver c files bytes exit out errors) (sym is) run
