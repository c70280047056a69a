-- Plan in dates: what `plan --dates` writes about a forest: the lines of the certificate after its first, each moment as a date.
-- They are for people, and no certificate.
-- Source: this project's own, over Vault, "Lease, renew, and revoke", and Vault, "Tokens"; a date is that of RFC 3339, section 5.6.
use Rattle.std.specs.Prelude.{◌≡◌, ℕ, true, List, [], ◌∷◌, ◌++◌, codes, decimal}
use Rattle.base_device.specs.Seen.{Change}
use Rattle.plan_forest.specs.{declared.entry.Entry.Entry, Forest.Forest}
use Rattle.plan_rule.specs.{declared.run.Run.Run, Runs.wake_count}
use Rattle.plan_search.specs.{Decides.AreBest, Decides.NoneKeeps, Shortfall.IsShortfall}
use Rattle.plan_certificate.specs.CertificateText.{end_line_text, line_text, name_of_entry, unkeepable_text}
use Rattle.program_report.specs.declared.exit.Exit.{Exit}
use Rattle.program_report.specs.declared.exit.Exit.TheVariants as exits
use Rattle.vault_start.specs.Start.{inventory_at}
use Rattle.plan_commands.specs.{PlanRun.PlanHalts, ReachText.IsMomentWord, Running.RunOf, Running.Texts}

-- `start DATE`
unfoldable pub start_line : List ℕ → List ℕ
start_line date = line_text (codes "start" ∷ date ∷ [])

-- `run DATE STEP COUNT ENTRY NEEDED`
unfoldable pub run_line : List Entry → Run → List ℕ → List ℕ
run_line es r date = line_text (codes "run" ∷ date ∷ decimal r.step ∷ decimal r.count ∷ name_of_entry es r.entry ∷ name_of_entry es r.needed ∷ [])

abbrev pub IsRunLine : List Entry → Run → List ℕ → Type 0
IsRunLine es r line = (date : List ℕ) × IsMomentWord true r.first date × (line ≡ run_line es r date)

-- the lines of runs, in order
abbrev pub AreRunLines : List Entry → List Run → List ℕ → Type 0
AreRunLines es [] text = text ≡ []
AreRunLines es (r ∷ rs) text = (line : List ℕ) × (rest : List ℕ) × IsRunLine es r line × AreRunLines es rs rest × (text ≡ line ++ rest)

-- the start, the runs, and how many wake-ups they are
pub record AreRunsInDates (es : List Entry) (s : ℕ) (rs : List Run) (text : List ℕ) : Type 0 where
  pub start : List ℕ
  pub is_start : IsMomentWord true s start
  pub lines : List ℕ
  pub are_lines : AreRunLines es rs lines
  pub spelled : text ≡ start_line start ++ (lines ++ end_line_text (wake_count rs))

-- the start, and a pair
pub record IsPairInDates (es : List Entry) (s entry needed : ℕ) (text : List ℕ) : Type 0 where
  pub start : List ℕ
  pub is_start : IsMomentWord true s start
  pub spelled : text ≡ start_line start ++ unkeepable_text es entry needed

-- the runs are those of the certificate that `plan` writes
pub record IsPlanInDates (g : Forest) (s : ℕ) (text : List ℕ) : Type 0 where
  pub runs : List Run
  pub best : AreBest g s runs
  pub dated : AreRunsInDates g.entries s runs text

-- no plan keeps, and the pair is that of the certificate
pub record IsNoneInDates (g : Forest) (s : ℕ) (text : List ℕ) : Type 0 where
  pub entry : ℕ
  pub needed : ℕ
  pub short : IsShortfall g s entry needed
  pub none : NoneKeeps g s
  pub dated : IsPairInDates g.entries s entry needed text

-- the text of a forest that goes with an exit
abbrev pub IsInDates : Forest → ℕ → Exit → List ℕ → Type 0
IsInDates g s exits.Done text = IsPlanInDates g s text
IsInDates g s exits.Unkeepable text = IsNoneInDates g s text
IsInDates g s exit text = ⊥

abbrev pub PlanDatesTexts : ℕ → Texts
PlanDatesTexts s g exit text = IsInDates g s exit text

-- `plan --dates` over the bytes of an inventory, from its start on
abbrev pub PlanDatesRun : List ℕ → ℕ → Exit → Change → Change → Type 0
PlanDatesRun bytes s exit out errors = RunOf (PlanDatesTexts s) (PlanHalts s) (inventory_at s bytes) exit out errors

-- a forest and a start have one such text, and one exit: nothing else shows in them
abbrev pub OnePlanInDates : Type 0
OnePlanInDates = (g : Forest) (s : ℕ) (exit exit' : Exit) (text other : List ℕ) → IsInDates g s exit text → IsInDates g s exit' other → (exit ≡ exit') × (text ≡ other)
