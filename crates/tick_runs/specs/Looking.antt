-- Looking: the lookups at the start of a live run: each entry by index, one after another.
-- Source: this project's own; what one lookup comes to is vault_exchange's `Lookups`.
use Rattle.std.specs.Prelude.{◌≡◌, ℕ, ◌<◌, ◌≤◌, ◌⊎◌, true, false, List, [], ◌∷◌, Option, Result, Ok, Err, length}
use Rattle.std.specs.List.{flat_map, range_with_len}
use Rattle.base_device.specs.{Seen.Change, Seen.ReceivesFront, Failures.HasFailed}
use Rattle.vault_exchange.specs.{Exchanges.Behind, Lookups.EntryIsLookedUp, Lookups.IsLookupLeft}
use Rattle.vault_inventory.specs.Inventories.{Inventory}
use Rattle.program_report.specs.{declared.stop.Stop.Stop, Sent.IsAll, Sent.IsUntouched}
use Rattle.program_report.specs.declared.stop.Stop.TheVariants as stops
use Rattle.program_lines.specs.{Text.entry_line, Text.name_of, Hearing.TextIsSaid}
use Rattle.plan_forest.specs.Forest.{entry_at}

-- an inventory, and what stands after the exchange over which it is looked up, where that is known
pub record Looked : Type 0 where
  pub inventory : Inventory
  pub behind : Option Behind

-- these entries are looked up at t, one after another, and what came of each is applied
abbrev pub AreLookedUp : ℕ → ℕ → Looked → List ℕ → Looked → Type 0
AreLookedUp port t old [] new = new ≡ old
AreLookedUp port t old (i ∷ is) new = (mid : Looked) × (EntryIsLookedUp port old.behind t old.inventory i true mid.inventory mid.behind × AreLookedUp port t mid is new)

-- the first n entries, by index
abbrev pub first_indices : ℕ → List ℕ
first_indices n = range_with_len 0 n

-- the line of an entry, as an inventory has it
abbrev pub looked_line : Inventory → ℕ → List ℕ
looked_line s i = entry_line (name_of s.forest i) (entry_at s.forest.entries i).end

unfoldable pub looked_text : Inventory → List ℕ → List ℕ
looked_text s is = flat_map (looked_line s) is

-- ---- how looking up ends

-- all entries were looked up, and their lines written and flushed; no write failed
pub record LooksAll (port t : ℕ) (old : Looked) (out : Change) (inventory : Inventory) (new : Option Behind) : Type 0 where
  pub looked : AreLookedUp port t old (first_indices (length old.inventory.forest.entries)) (record { inventory = inventory; behind = new })
  pub said : TextIsSaid (looked_text inventory (first_indices (length old.inventory.forest.entries))) out
  pub kept : out.new.failed_calls ≡ out.old.failed_calls

-- the first n entries were looked up, and their lines written and flushed; the lookup of the next, of that name, is not applied
pub record IsUnlooked (port t : ℕ) (old : Looked) (name : List ℕ) (out : Change) (new : Option Behind) : Type 0 where
  pub n : ℕ
  pub within : n < length old.inventory.forest.entries
  pub now : Looked
  pub looked : AreLookedUp port t old (first_indices n) now
  pub said : TextIsSaid (looked_text now.inventory (first_indices n)) out
  pub name_is : name ≡ name_of now.inventory.forest n
  pub unapplied : EntryIsLookedUp port now.behind t now.inventory n false now.inventory new

-- the first n entries were looked up, and no more than a front of their lines was written
pub record LookingIsCut (port t : ℕ) (old now : Looked) (n : ℕ) (out : Change) : Type 0 where
  pub within : n ≤ length old.inventory.forest.entries
  pub looked : AreLookedUp port t old (first_indices n) now
  pub front : ReceivesFront (looked_text now.inventory (first_indices n)) out

-- where memory was wanting, and the table is known, the exchange is as the lookups left it, or as the one under way did
abbrev pub LookupsLeave : ℕ → ℕ → Looked → ℕ → Option Behind → Type 0
LookupsLeave port t now n new = IsLookupLeft port now.behind t now.inventory n new

-- what looking all entries up comes to: with the inventory as it then is, and what then stands after the exchange
abbrev pub LooksAllUp : ℕ → ℕ → Looked → Result (Unit {0}) Stop → Change → Inventory → Option Behind → Type 0
LooksAllUp port t old (Ok u) out inventory new = LooksAll port t old out inventory new
LooksAllUp port t old (Err (stops.Broker name)) out inventory new = IsUnlooked port t old name out new
LooksAllUp port t old (Err stops.Write) out inventory new =
    (n : ℕ) × (now : Looked) × LookingIsCut port t old now n out × (new ≡ now.behind) × HasFailed out.old.failed_calls out.new.failed_calls
LooksAllUp port t old (Err stops.Memory) out inventory new = (n : ℕ) × (now : Looked) × LookingIsCut port t old now n out × LookupsLeave port t now n new
LooksAllUp port t old (Err stop) out inventory new = ⊥

-- ---- words for one lookup. No public clause cites them

-- the lookup is applied
abbrev pub Applies : ℕ → ℕ → Looked → ℕ → Inventory → Option Behind → Type 0
Applies port t old i inventory new = EntryIsLookedUp port old.behind t old.inventory i true inventory new

-- what looking one entry up comes to
abbrev pub LooksOneUp : ℕ → ℕ → Looked → ℕ → Result (Unit {0}) Stop → Change → Inventory → Option Behind → Type 0
LooksOneUp port t old i (Ok u) out inventory new = Applies port t old i inventory new × IsAll (looked_line inventory i) out × (out.new.failed_calls ≡ out.old.failed_calls)
LooksOneUp port t old i (Err (stops.Broker name)) out inventory new =
    (name ≡ name_of old.inventory.forest i) × EntryIsLookedUp port old.behind t old.inventory i false old.inventory new × IsUntouched out
LooksOneUp port t old i (Err stops.Write) out inventory new =
    Applies port t old i inventory new × HasFailed out.old.failed_calls out.new.failed_calls × ReceivesFront (looked_line inventory i) out
LooksOneUp port t old i (Err stops.Memory) out inventory new =
    (IsUntouched out × LookupsLeave port t old i new) ⊎ (Applies port t old i inventory new × ReceivesFront (looked_line inventory i) out)
LooksOneUp port t old i (Err stop) out inventory new = ⊥
