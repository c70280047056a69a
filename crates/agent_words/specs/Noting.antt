-- Noting: why a file that is read anew is not served, a reason a line.
-- Source: this project's own; docs/running.md, "What the operator sees".
use Rattle.std.specs.Prelude.{◌≡◌, ◌⊎◌, ℕ, ◌-◌, ◌==◌, if◌then◌else◌, List, [], ◌∷◌, ◌++◌, Option, Some, None, length, map, take, Ok, Err}
use Rattle.vault_inventory.specs.{Inventory.read_served, Served.Served, declared.fault.InvFault.InvFault}
use Rattle.vault_lint.specs.FaultWords.{IsSaidOf}
use Rattle.plan_forest.specs.Forest.{Forest}
use Rattle.agent_words.specs.{Outcomes.Whys, Reading.AreWrittenFaults, Reading.IsWellWritten, Reasons.file_words, Reasons.more_words, declared.demands.Demands.Demands, declared.fault.StartFault.StartFault}

-- so many faults are not said one by one
abbrev pub more_faults : ℕ → List (List ℕ)
more_faults left = if left == 0 then [] else more_words left ∷ []

-- a hundred faults at most are said, and then how many more there are
unfoldable pub said_faults : Demands → Forest → List StartFault → List (List ℕ)
said_faults d g faults = map (file_words d g) (take 100 faults) ++ more_faults (length faults - 100)

-- what is said of a text that is no inventory, alone
abbrev pub IsAlone : List ℕ → InvFault → List (List ℕ) → Type 0
IsAlone bytes why whys = (said : List ℕ) × (IsSaidOf bytes why said × (whys ≡ said ∷ []))

-- why a file with these bytes is not served: its one fault as an inventory; or these faults of the entries that it writes
abbrev pub AreWhysNotServed : Demands → List ℕ → List StartFault → List (List ℕ) → Type 0
AreWhysNotServed d bytes faults whys =
    ((why : InvFault) × ((read_served bytes ≡ Err why) × IsAlone bytes why whys)) ⊎ ((v : Served) × ((read_served bytes ≡ Ok v) × (whys ≡ said_faults d v.inventory.forest faults)))

-- it may not be served, for each of these reasons
abbrev pub SaysFaults : Demands → List ℕ → List (List ℕ) → Type 0
SaysFaults demands bytes whys = (fault : StartFault) × ((more : List StartFault) × (AreWrittenFaults demands bytes (fault ∷ more) × AreWhysNotServed demands bytes (fault ∷ more) whys))

-- it may be served, or these are the reasons why not
abbrev pub SaysIfFaulty : Demands → List ℕ → Option Whys → Type 0
SaysIfFaulty demands bytes None = IsWellWritten demands bytes
SaysIfFaulty demands bytes (Some whys) = SaysFaults demands bytes whys.items
