-- The run `plan`: which text goes with which exit, and when there is none.
-- Source: this project's own, over Vault, "Lease, renew, and revoke", and Vault, "Tokens".
use Rattle.std.specs.Prelude.{◌≡◌, ℕ, List}
use Rattle.base_device.specs.Seen.{Change}
use Rattle.plan_forest.specs.Forest.{Forest}
use Rattle.plan_rule.specs.declared.run.Run.{Run}
use Rattle.plan_search.specs.Shortfall.{IsShortfall}
use Rattle.plan_search.specs.Decides.{AreBest, NoneKeeps, PlanIsTooLong}
use Rattle.plan_certificate.specs.declared.cert.Body.TheVariants as body
use Rattle.plan_certificate.specs.{CertificateText.certificate_text, Printing.certified}
use Rattle.program_report.specs.declared.exit.Exit.{Exit}
use Rattle.program_report.specs.declared.exit.Exit.TheVariants as exits
use Rattle.program_report.specs.declared.stop.Stop.TheVariants as stops
use Rattle.vault_start.specs.Start.{inventory_at}
use Rattle.plan_commands.specs.Running.{Halts, RunOf, Texts}

-- the certificate of runs whose wake-ups are the forces from s on: their moments are least and latest, and with their Asks
-- they keep
pub record IsPlanText (g : Forest) (s : ℕ) (text : List ℕ) : Type 0 where
  pub runs : List Run
  pub best : AreBest g s runs
  pub spelled : text ≡ certificate_text g.entries (certified s (body.Runs runs))

-- the certificate of the lowest entry that cannot be led to a need it carries, and of whose need that is; no plan keeps
pub record IsPairText (g : Forest) (s : ℕ) (text : List ℕ) : Type 0 where
  pub entry : ℕ
  pub needed : ℕ
  pub short : IsShortfall g s entry needed
  pub none : NoneKeeps g s
  pub spelled : text ≡ certificate_text g.entries (certified s (body.Unkeepable entry needed))

-- the text of a forest that goes with an exit
abbrev pub IsCertified : Forest → ℕ → Exit → List ℕ → Type 0
IsCertified g s exits.Done text = IsPlanText g s text
IsCertified g s exits.Unkeepable text = IsPairText g s text
IsCertified g s exit text = ⊥

-- no plan that keeps is short enough
abbrev pub PlanHalts : ℕ → Halts
PlanHalts s g stop = (stop ≡ stops.TooLong) × PlanIsTooLong g s

abbrev pub PlanTexts : ℕ → Texts
PlanTexts s g exit text = IsCertified g s exit text

-- `plan` over the bytes of an inventory, from its start on
abbrev pub PlanRun : List ℕ → ℕ → Exit → Change → Change → Type 0
PlanRun bytes s exit out errors = RunOf (PlanTexts s) (PlanHalts s) (inventory_at s bytes) exit out errors
