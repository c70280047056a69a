-- Secrecy: of two inventories that differ in their credentials alone a run writes the same.
use Rattle.std.specs.Prelude.{◌≡◌, ◌⊎◌, ℕ, Bool, List, Option, Ok}
use Rattle.base_device.specs.Seen.{Change, Receives, ReceivesFront}
use Rattle.vault_inventory.specs.{Bare.DocumentsAreAlike, Inventory.read_known, Served.Served}
use Rattle.program_report.specs.{declared.exit.Exit.Exit, Told.Reports, Sent.IsUntouched}
use Rattle.program_report.specs.declared.exit.Exit.TheVariants as exits
use Rattle.plan_commands.specs.{CheckRun.CheckRun, EndsRun.EndsRun, declared.margin.MarginQuery.MarginQuery, MarginRun.MarginRun, PlanDates.PlanDatesRun, PlanRun.PlanRun, ReachRun.ReachRun}

-- two good inventories, each of whose tables writes its end, whose documents differ in the keys `secret` and `lease_id` and their
-- values alone
pub record DifferInSecrets (bytes other : List ℕ) : Type 0 where
  pub alike : DocumentsAreAlike bytes other
  pub served : Served
  pub reads : read_known bytes ≡ Ok served
  pub other_served : Served
  pub other_reads : read_known other ≡ Ok other_served

-- the run came to its end: no device failed, and no memory was wanting
abbrev pub RunIsWhole : Exit → Type 0
RunIsWhole exits.Device = ⊥
RunIsWhole exits.Memory = ⊥
RunIsWhole exit = Unit {0}

-- two runs wrote the same
abbrev pub WriteSame : Change → Change → Type 0
WriteSame out other = (text : List ℕ) × Receives text out × Receives text other

-- of one text each of two runs wrote a front, and nothing else
abbrev pub WriteFronts : Change → Change → Type 0
WriteFronts out other = (text : List ℕ) × ReceivesFront text out × ReceivesFront text other

-- two runs reported by one fault line, or both by none
abbrev pub TellSame : Change → Change → Type 0
TellSame errors other = (IsUntouched errors × IsUntouched other) ⊎ ((line : List ℕ) × Reports line errors × Reports line other)

-- two runs: on `out` they write fronts of one text; and where both come to their end they have one exit, write one text,
-- and report by one line
abbrev pub RunAlike : Exit → Exit → Change → Change → Change → Change → Type 0
RunAlike exit exit' out out' errors errors' =
    WriteFronts out out' × (RunIsWhole exit → RunIsWhole exit' → (exit ≡ exit') × WriteSame out out' × TellSame errors errors')

abbrev pub EndsSecrecy : Type 0
EndsSecrecy =
    (bytes other : List ℕ) (s : ℕ) (moments : List ℕ) (exit exit' : Exit) (out out' errors errors' : Change) → DifferInSecrets bytes other →
    EndsRun bytes s moments exit out errors → EndsRun other s moments exit' out' errors' → RunAlike exit exit' out out' errors errors'

abbrev pub PlanSecrecy : Type 0
PlanSecrecy =
    (bytes other : List ℕ) (s : ℕ) (exit exit' : Exit) (out out' errors errors' : Change) → DifferInSecrets bytes other →
    PlanRun bytes s exit out errors → PlanRun other s exit' out' errors' → RunAlike exit exit' out out' errors errors'

abbrev pub PlanDatesSecrecy : Type 0
PlanDatesSecrecy =
    (bytes other : List ℕ) (s : ℕ) (exit exit' : Exit) (out out' errors errors' : Change) → DifferInSecrets bytes other →
    PlanDatesRun bytes s exit out errors → PlanDatesRun other s exit' out' errors' → RunAlike exit exit' out out' errors errors'

abbrev pub MarginSecrecy : Type 0
MarginSecrecy =
    (bytes other : List ℕ) (q : MarginQuery) (exit exit' : Exit) (out out' errors errors' : Change) → DifferInSecrets bytes other →
    MarginRun bytes q exit out errors → MarginRun other q exit' out' errors' → RunAlike exit exit' out out' errors errors'

abbrev pub ReachSecrecy : Type 0
ReachSecrecy =
    (bytes other : List ℕ) (s : ℕ) (dates : Bool) (exit exit' : Exit) (out out' errors errors' : Change) → DifferInSecrets bytes other →
    ReachRun bytes s dates exit out errors → ReachRun other s dates exit' out' errors' → RunAlike exit exit' out out' errors errors'

abbrev pub CheckSecrecy : Type 0
CheckSecrecy =
    (bytes other text : List ℕ) (asked : Option ℕ) (exit exit' : Exit) (out out' errors errors' : Change) → DifferInSecrets bytes other →
    CheckRun bytes text asked exit out errors → CheckRun other text asked exit' out' errors' → RunAlike exit exit' out out' errors errors'
