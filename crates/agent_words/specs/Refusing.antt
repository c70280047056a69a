-- Refusing: what is said of a start that is refused.
-- Source: this project's own; docs/commands/serve.md.
use Rattle.std.specs.Prelude.{ℕ, if◌then◌else◌, List, [], ◌∷◌, ◌++◌, Option, Some, None, codes, decimal}
use Rattle.vault_inventory.specs.declared.fault.InvFault.{InvFault}
use Rattle.vault_inventory.specs.declared.fault.InvFault.TheVariants as inventories
use Rattle.program_lines.specs.Text.{name_of}
use Rattle.state_file.specs.declared.fault.SettleFault.{SettleFault}
use Rattle.state_file.specs.declared.fault.SettleFault.TheVariants as settling
use Rattle.plan_forest.specs.{Forest.Forest, Forest.entry_at, Push.is_lease}
use Rattle.agent_words.specs.{Starts.least_margin, declared.demands.Demands.Demands, declared.fault.StartFault.StartFault}
use Rattle.agent_words.specs.declared.fault.StartFault.TheVariants.{Inventory, NoMargin, SmallMargin, NoCredential, NoFile, NoSecret, Together, OutOfMemory}

-- the key of an entry's credential, and that of its file
abbrev pub own_key : Forest → ℕ → List ℕ
own_key g i = if is_lease (entry_at g.entries i).kind then codes "lease_id" else codes "secret"

abbrev pub file_key : Forest → ℕ → List ℕ
file_key g i = if is_lease (entry_at g.entries i).kind then codes "lease_id_file" else codes "secret_file"

-- an entry, a key of it, and words
abbrev pub of_key : Forest → ℕ → List ℕ → List ℕ → List ℕ
of_key g i key said = name_of g i ++ (codes ": " ++ (key ++ (codes ": " ++ said)))

-- how long a margin is to be written
abbrev pub remedy_where : Option ℕ → List ℕ
remedy_where None = codes "write one of at least 4 times the time-out"
remedy_where (Some number) = codes "with --behind write one of at least 8 times the time-out"

abbrev pub small_words : Demands → ℕ → List ℕ
small_words d margin = codes "margin: is " ++ (decimal margin ++ (codes " seconds; " ++ (remedy_where d.behind ++ (codes ", " ++ (decimal (least_margin d) ++ codes " seconds")))))

abbrev pub taken_words : Forest → Option ℕ → List ℕ
taken_words g (Some i) = of_key g i (file_key g i) (codes "the file holds what another entry has; write each its own")
taken_words g None = codes "the inventory with what its files hold is none"

abbrev pub refused_words : Forest → InvFault → List ℕ
refused_words g (inventories.BadValue entry key) = taken_words g entry
refused_words g fault = codes "the inventory with what its files hold is none"

abbrev pub together_words : Forest → SettleFault → List ℕ
together_words g settling.TooLong = codes "the inventory with what its files hold is over 1048576 bytes; split it"
together_words g (settling.Refused fault) = refused_words g fault
together_words g settling.Differs = codes "the inventory with what its files hold is none"
together_words g settling.OutOfMemory = codes "memory"

unfoldable pub start_words : Demands → Forest → StartFault → List ℕ
start_words d g (Inventory fault) = codes "the inventory is faulty"
start_words d g NoMargin = codes "margin: is not written; " ++ remedy_where d.behind
start_words d g SmallMargin = small_words d g.margin
start_words d g (NoCredential i) = of_key g i (own_key g i) (codes "is not written; write it (with --names-are-secrets the name is sent in its place, for trials)")
start_words d g (NoFile i) = of_key g i (file_key g i) (codes "the file cannot be read; put the credential there before the start")
start_words d g (NoSecret i) = of_key g i (file_key g i) (codes "the file holds no credential of 1 to 256 printable ASCII characters; write it there")
start_words d g (Together fault) = together_words g fault
start_words d g OutOfMemory = codes "memory"

-- the line, with the program's name in front
abbrev pub start_refusal_line : List ℕ → Demands → Forest → StartFault → List ℕ
start_refusal_line program d g fault = program ++ (codes ": " ++ (start_words d g fault ++ 10 ∷ []))
