-- Fault line: what a program that stops says of it, with its own name in front.
-- Source: this project's own.
use Rattle.std.specs.Prelude.{ℕ, List, [], ◌∷◌, ◌++◌, Option, Some, None, codes, decimal}
use Rattle.plan_forest.specs.declared.fault.TreeFault.{TreeFault}
use Rattle.plan_forest.specs.declared.fault.TreeFault.TheVariants as trees
use Rattle.plan_rule.specs.declared.wake.WakeFault.{WakeFault}
use Rattle.plan_rule.specs.declared.wake.WakeFault.TheVariants as wakes
use Rattle.vault_inventory.specs.{declared.fault.InvFault.InvFault, Keys.key_text}
use Rattle.vault_inventory.specs.declared.fault.InvFault.TheVariants as inventories
use Rattle.program_report.specs.declared.stop.Stop.{Stop}
use Rattle.program_report.specs.declared.stop.Stop.TheVariants as stops

unfoldable pub tree_word : TreeFault → List ℕ
tree_word trees.BadName = codes "bad-name"
tree_word trees.NameTwice = codes "name-twice"
tree_word trees.NoParent = codes "no-parent"
tree_word trees.ParentIsLease = codes "parent-is-lease"
tree_word trees.LeaseWithoutToken = codes "lease-without-token"
tree_word trees.StepTooSmall = codes "step-too-small"
tree_word trees.OutOfRange = codes "out-of-range"
tree_word trees.TooDeep = codes "too-deep"
tree_word trees.Full = codes "full"
tree_word trees.OutOfMemory = codes "out-of-memory"

-- an entry by its index, `-` for the top level
unfoldable pub place_word : Option ℕ → List ℕ
place_word None = codes "-"
place_word (Some entry) = decimal entry

-- an inventory's first fault
unfoldable pub inventory_words : InvFault → List ℕ
inventory_words inventories.NotToml = codes "inventory: not-toml"
inventory_words (inventories.MissingKey entry key) = codes "inventory: missing-key " ++ (place_word (Some entry) ++ (32 ∷ key_text key))
inventory_words (inventories.UnknownKey place) = codes "inventory: unknown-key " ++ place_word place
inventory_words (inventories.BadValue place key) = codes "inventory: bad-value " ++ (place_word place ++ (32 ∷ key_text key))
inventory_words (inventories.Tree entry fault) = codes "inventory: tree " ++ (place_word (Some entry) ++ (32 ∷ tree_word fault))
inventory_words inventories.OutOfMemory = codes "memory"

-- the first moment at fault, counted from 1
unfoldable pub moments_words : WakeFault → List ℕ
moments_words (wakes.BeforeStart n) = codes "moments: before-start " ++ decimal n
moments_words (wakes.Unordered n) = codes "moments: unordered " ++ decimal n
moments_words (wakes.BadIndex n) = codes "moments: bad-index " ++ decimal n
moments_words wakes.OutOfMemory = codes "memory"

unfoldable pub stop_words : Stop → List ℕ
stop_words (stops.Inventory fault) = inventory_words fault
stop_words (stops.Moments fault) = moments_words fault
stop_words (stops.FaultWord position) = codes "fault word " ++ decimal position
stop_words stops.TooLong = codes "too long"
stop_words stops.Read = codes "read"
stop_words stops.Write = codes "write"
stop_words (stops.Broker name) = codes "broker " ++ name
stop_words (stops.Line number) = codes "line " ++ decimal number
stop_words stops.Memory = codes "memory"

-- what stands before a colon
abbrev pub before_colon : List ℕ → List ℕ
before_colon text = text ++ codes ": "

-- the program's name, a colon, what it says, and a line feed
unfoldable pub fault_line : List ℕ → Stop → List ℕ
fault_line program stop = program ++ (codes ": " ++ (stop_words stop ++ (10 ∷ [])))

-- the name of `leasekeep`, and the line by which it tells of a stop
abbrev pub own_name : List ℕ
own_name = codes "leasekeep"

abbrev pub line_of_stop : Stop → List ℕ
line_of_stop stop = fault_line own_name stop
