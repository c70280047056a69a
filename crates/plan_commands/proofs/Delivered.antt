-- Delivered: from what is made before the first write to the run, for every command.
use Rattle.std.proofs.Common.{ℕ, List, Result, Ok, Err, inl, inr, refl, subst, sym}
use Rattle.base_device.specs.Seen.{Change}
use Rattle.plan_forest.specs.Forest.{Forest}
use Rattle.plan_search.specs.{declared.decision.Decision.Decision, Decides.Decides}
use Rattle.plan_search.specs.declared.decision.Decision.TheVariants as decision
use Rattle.plan_certificate.specs.{declared.printer.PrintFault.TheVariants.NoCertificate, Printing.PrintsClaim, Printing.claim}
use Rattle.vault_inventory.specs.{declared.fault.InvFault.InvFault, Inventories.Inventory}
use Rattle.program_report.specs.{declared.exit.Exit.Exit, declared.stop.Stop.Stop}
use Rattle.program_report.specs.declared.stop.Stop.TheVariants as stops
use Rattle.plan_commands.specs.{declared.outcome.Outcome.Outcome, PlanRun.IsCertified, PlanRun.PlanHalts}
use Rattle.plan_commands.specs.code.Making.{Delivers, MakesOutcome, decided_exit}
use Rattle.plan_commands.specs.Running.{Halted, Halts, RunOf, Texts}

-- ---- any command

halted : (Text : Texts) (Halt : Halts) (answer : Result Inventory InvFault) (stop : Stop) → MakesOutcome Text Halt answer (Err stop) → Halted Halt answer stop
halted Text Halt answer (stops.Inventory fault) makes = makes
halted Text Halt answer _ makes = makes

pub run_delivered : (Text : Texts) (Halt : Halts) (answer : Result Inventory InvFault) (made : Result Outcome Stop) (exit : Exit) (out errors : Change) →
    MakesOutcome Text Halt answer made → Delivers made exit out errors → RunOf Text Halt answer exit out errors
run_delivered Text Halt answer (Ok outcome) exit out errors makes (inl sent) =
    inl (makes.0, makes.1, outcome.text, subst (λ e. Text makes.0.forest e outcome.text) (sym sent.0) makes.2, sent.1, sent.2)
run_delivered Text Halt answer (Ok outcome) exit out errors makes (inr cut) =
    inr (inr (makes.0, makes.1, outcome.exit, outcome.text, makes.2, cut.0, cut.1, cut.2, cut.3))
run_delivered Text Halt answer (Err stop) exit out errors makes told = inr (inl (stop, halted Text Halt answer stop makes, told.0, told.1, told.2))

-- ---- a forest's decision

pub decided_text : (g : Forest) (s : ℕ) (d : Decision) (text : List ℕ) → Decides g s d → PrintsClaim g.entries s (claim d) (Ok text) → IsCertified g s (decided_exit d) text
decided_text g s (decision.Keep p) text decides printed = record { runs = p.runs; best = decides.best; spelled = printed }
decided_text g s (decision.Unkeepable entry needed) text decides printed = record { entry = entry; needed = needed; short = decides.0; none = decides.1; spelled = printed }
decided_text g s decision.TooLong text decides printed = absurd cc

pub decided_long : (g : Forest) (s : ℕ) (d : Decision) → Decides g s d → PrintsClaim g.entries s (claim d) (Err NoCertificate) → PlanHalts s g stops.TooLong
decided_long g s decision.TooLong decides printed = (refl, decides)
decided_long g s _ decides printed = absurd cc
